-- The laws of a card.
use Rattle.std.proofs.Common.{◌≡◌, ℕ, ◌+◌, ◌-◌, ◌*◌, ◌/◌, ◌%◌, ◌<◌, ◌≤◌, min, true, false, cond, eqb, List, length, get_or, take, drop, Err, sym, ap, ◌∙◌, ⊎_elim, arith}
use Rattle.std.proofs.lemmas.List.{get_or-take, get_or-drop, ext_get_or, length-take}
use Rattle.std.proofs.lemmas.Bool.{and_parts, cond-true, cond-false, cases_lt, cases_eq, eq-eqb}
use Rattle.memory.specs.Blocks.{sound, sums_hold, Sealed}
use Rattle.memory.specs.Cards.{block, block_count, sound_at, data_outcome, card}
use Rattle.memory.specs.Halfwords.{halfword, Bytes}
use Rattle.memory.specs.Laws.{AlteredAt, DamageRefused, SealedReadBack, SealedPieces, AnswersAsFlat, CardLaws}
use Rattle.memory.specs.Memories.{flat}
use Rattle.memory.specs.Outcomes.{present, absent, unsound, even_answer}
use Rattle.memory.specs.Refusals.{refusal}
use Rattle.memory.proofs.Cards.{ShowsSome, shown_inside, shown_outside, card_inside, card_outside, cases_shows, block_byte, block_past, block_bytes, length-block}
use Rattle.memory.proofs.Damage.{damage_shows}

-- the halfword at byte j of block k
block_halfword : (file : List ℕ) (k j : ℕ) → j + 1 < 512 → halfword (block file k) j ≡ halfword file (512 * k + j)
block_halfword file k j l =
    let low = block_byte file k j (omega arith) in
    let high : get_or (block file k) (j + 1) 0 ≡ get_or file (512 * k + j + 1) 0 =
    block_byte file k (j + 1) l ∙ ap (λ n. get_or file n 0) (omega arith) in
    omega (arith, low, high)

module _ (original file : List ℕ) (k i : ℕ) (small : i < 256) (altered : AlteredAt (512 * k + 2 * i) original file) where
  -- the altered halfword is one of block k
  block_altered : AlteredAt (2 * i) (block original k) (block file k)
  block_altered =
      record {
        as_long = length-block file original k altered.as_long;
        differs = λ e. altered.differs (sym (block_halfword file k (2 * i) (omega arith)) ∙ e ∙ block_halfword original k (2 * i) (omega arith));
        others_same = λ j ne_low ne_high.
            ⊎_elim
            (λ (l : j < 512).
            block_byte file k j l
            ∙ altered.others_same (512 * k + j) (λ e. ne_low (omega arith)) (λ e. ne_high (omega arith))
            ∙ sym (block_byte original k j l))
            (λ (g : 512 ≤ j). block_past file k j g ∙ sym (block_past original k j g))
            (cases_lt j 512);
      }

  -- every other block is as it was
  block_kept : (m : ℕ) → (m ≡ k → ⊥) → block file m ≡ block original m
  block_kept m ne =
      ext_get_or 0 (block file m) (block original m) (length-block file original m altered.as_long)
      (λ j l.
      let within : j < 512 = omega (arith, length-take 512 (drop (512 * m) file)) in
      block_byte file m j within
      ∙ altered.others_same (512 * m + j) (λ e. ne (omega arith)) (λ e. ne (omega arith))
      ∙ sym (block_byte original m j within))

pub damage_refused : (base : ℕ) (file : List ℕ) → Bytes file → DamageRefused base file (card base file)
damage_refused base file q original k i p within small good altered =
    let count : block_count file ≡ block_count original = ap (λ n. min (n / 512) 4096) altered.as_long in
    let holds : sums_hold (block original k) ≡ true = (and_parts (sums_hold (block original k)) _ good).0 in
    let bad : sound_at file k ≡ false =
    (damage_shows (block original k) (block_bytes original k p) holds).unsound_under_any (block file k) i k (block_bytes file k q) small (block_altered original file k i small altered) in
    record {
      refused = λ a h.
          card_inside base file a (h.0, h.1, omega (arith, count, h.2))
          ∙ cond-false _ _ _ (ap (sound_at file) h.2 ∙ bad);
      unchanged = λ a h.
          ⊎_elim
          (λ (shows : ShowsSome base original a).
          let other : (a - base) / 504 ≡ k → ⊥ = λ e. h (shows.0, shows.1, e) in
          card_inside base file a (shows.0, shows.1, omega (arith, count, shows.2))
          ∙ ap (λ b. cond (sound b ((a - base) / 504)) (present (halfword b ((a - base) % 504))) unsound)
          (block_kept original file k i small altered ((a - base) / 504) other)
          ∙ sym (card_inside base original a shows))
          (λ (none : ShowsSome base original a → ⊥).
          card_outside base file a (λ shows. none (shows.0, shows.1, omega (arith, count, shows.2)))
          ∙ sym (card_outside base original a none))
          (cases_shows base original a);
    }

-- a sealed block has its data's halfwords
sealed_halfword : (k j : ℕ) (payload b : List ℕ) → Sealed k payload b → j + 1 < 504 → halfword b j ≡ halfword payload j
sealed_halfword k j payload b s l =
    let byte : (n : ℕ) → n < 504 → get_or b n 0 ≡ get_or payload n 0 = λ n m.
    sym (get_or-take 504 b n 0 m) ∙ ap (λ x. get_or x n 0) s.holds in
    omega (arith, byte j (omega arith), byte (j + 1) l)

pub sealed_read_back : (base : ℕ) (file : List ℕ) → SealedReadBack base file (card base file)
sealed_read_back base file k j payload within s l top =
    let a = base + 504 * k + j in
    let q : (a - base) / 504 ≡ k = omega arith in
    let r : (a - base) % 504 ≡ j = omega arith in
    card_inside base file a (omega arith, top, omega (arith, q))
    ∙ ap (λ m. data_outcome file m ((a - base) % 504)) q
    ∙ ap (λ n. data_outcome file k n) r
    ∙ cond-true _ _ _ s.is_sound
    ∙ ap present (sealed_halfword k j payload (block file k) s l)

-- the halfword at byte o of the data is in piece o / 504
piece_halfword : (payload : List ℕ) (o : ℕ) → o % 504 + 1 < 504 → halfword (take 504 (drop (504 * (o / 504)) payload)) (o % 504) ≡ halfword payload o
piece_halfword payload o l =
    let byte : (n : ℕ) → n < 504 → get_or (take 504 (drop (504 * (o / 504)) payload)) n 0 ≡ get_or payload (504 * (o / 504) + n) 0 = λ n m.
    get_or-take 504 (drop (504 * (o / 504)) payload) n 0 m ∙ get_or-drop (504 * (o / 504)) payload n 0 in
    let low : get_or (take 504 (drop (504 * (o / 504)) payload)) (o % 504) 0 ≡ get_or payload o 0 =
    byte (o % 504) (omega arith) ∙ ap (λ n. get_or payload n 0) (omega arith) in
    let high : get_or (take 504 (drop (504 * (o / 504)) payload)) (o % 504 + 1) 0 ≡ get_or payload (o + 1) 0 =
    byte (o % 504 + 1) l ∙ ap (λ n. get_or payload n 0) (omega arith) in
    omega (arith, low, high)

-- at an even address a card of sealed pieces shows what flat memory of the data shows
shows_as_flat : (base : ℕ) (file : List ℕ) → base % 2 ≡ 0 → (n : ℕ) (payload : List ℕ) → SealedPieces n payload file
    → (a : ℕ) → (a % 2 ≡ 1 → ⊥) → card base file a ≡ flat base payload a
shows_as_flat base file even_base n payload s a even_address =
    let count : block_count file ≡ n = omega (arith, s.file_long, s.few) in
    ⊎_elim
    (λ (shows : ShowsSome base file a).
    let o = a - base in
    let inside : o / 504 < n = omega (arith, count, shows.2) in
    let parity : o % 504 + 1 < 504 = omega (arith, shows.0) in
    let piece = s.pieces (o / 504) inside in
    card_inside base file a shows
    ∙ cond-true _ _ _ piece.is_sound
    ∙ ap present (sealed_halfword (o / 504) (o % 504) _ (block file (o / 504)) piece parity ∙ piece_halfword payload o parity)
    ∙ sym (shown_inside base a (o + 1) (length payload) _ absent (shows.0, shows.1, omega (arith, inside, parity, s.payload_long))))
    (λ (none : ShowsSome base file a → ⊥).
    card_outside base file a none
    ∙ sym (shown_outside base a (a - base + 1) (length payload) (present (halfword payload (a - base))) _ (λ there. none (there.0, there.1, omega (arith, count, there.2, s.payload_long)))))
    (cases_shows base file a)

pub answers_as_flat : (base : ℕ) (file : List ℕ) → base % 2 ≡ 0 → AnswersAsFlat base file (card base file)
answers_as_flat base file even_base n payload s a =
    ⊎_elim
    (λ (odd : a % 2 ≡ 1). cond-true _ _ _ (eq-eqb _ _ odd) ∙ sym (cond-true _ _ _ (eq-eqb _ _ odd)))
    (λ (even_address : a % 2 ≡ 1 → ⊥).
    ap (λ o. cond (eqb (a % 2) 1) (Err (refusal 1)) (even_answer o)) (shows_as_flat base file even_base n payload s a even_address))
    (cases_eq (a % 2) 1)

pub card_laws : (base : ℕ) (file : List ℕ) → base % 2 ≡ 0 → Bytes file → CardLaws base file (card base file)
card_laws base file even_base bytes =
    record {
      damage_refused = damage_refused base file bytes;
      sealed_read_back = sealed_read_back base file;
      answers_as_flat = answers_as_flat base file even_base;
    }
