-- What a card shows, address by address.
use Rattle.std.proofs.Common.{◌≡◌, ℕ, ◌+◌, ◌-◌, ◌*◌, ◌/◌, ◌%◌, ◌^◌, ◌<◌, ◌≤◌, min, Bool, true, false, cond, ◌&&◌, ltb, leb, ◌⊎◌, List, length, get_or, drop, refl, ap, ◌∙◌, inl, inr, ⊎_elim, arith}
use Rattle.std.proofs.lemmas.List.{get_or-take, get_or-drop, get_or_past, length-take, length-drop}
use Rattle.std.proofs.lemmas.Bool.{ltb-true, leb-true, lt-ltb, le-leb, and_from, and_parts, cond-true, cond-false, cases_Bool, cases_lt}
use Rattle.memory.specs.Cards.{block, block_count, data_outcome, card}
use Rattle.memory.specs.Halfwords.{Bytes}
use Rattle.memory.specs.Memories.{in_reach}
use Rattle.memory.specs.Outcomes.{absent}

-- an address that a memory from this base on shows: 32 bits hold it, and what is asked of its place x lies below n
abbrev pub ShownAt : ℕ → ℕ → ℕ → ℕ → Type 0
ShownAt base a x n = (base ≤ a) × (a < 2 ^ 32) × (x < n)

module _ {X : Type 0} (base a x n : ℕ) (p q : X) where
  pub shown_inside : ShownAt base a x n → cond (in_reach base a && ltb x n) p q ≡ p
  shown_inside h = cond-true _ _ _ (and_from _ _ (and_from _ _ (le-leb _ _ h.0) (lt-ltb _ _ h.1)) (lt-ltb _ _ h.2))

  pub shown_outside : (ShownAt base a x n → ⊥) → cond (in_reach base a && ltb x n) p q ≡ q
  shown_outside h =
      ⊎_elim
      (λ (e : (in_reach base a && ltb x n) ≡ true).
      let parts = and_parts (in_reach base a) _ e in
      let reach = and_parts (leb base a) _ parts.0 in
      absurd (h (leb-true _ _ reach.0, ltb-true _ _ reach.1, ltb-true _ _ parts.1)))
      (λ e. cond-false _ _ _ e)
      (cases_Bool (in_reach base a && ltb x n))

-- the address shows some block of a file
abbrev pub ShowsSome : ℕ → List ℕ → ℕ → Type 0
ShowsSome base file a = ShownAt base a ((a - base) / 504) (block_count file)

-- two tests one inside the other, as one
both_tests : {X : Type 0} (b c : Bool) (p q : X) → cond b (cond c p q) q ≡ cond (b && c) p q
both_tests true c p q = refl
both_tests false c p q = refl

pub card_inside : (base : ℕ) (file : List ℕ) (a : ℕ) → ShowsSome base file a
    → card base file a ≡ data_outcome file ((a - base) / 504) ((a - base) % 504)
card_inside base file a h = both_tests (in_reach base a) _ _ _ ∙ shown_inside base a _ _ _ _ h

pub card_outside : (base : ℕ) (file : List ℕ) (a : ℕ) → (ShowsSome base file a → ⊥) → card base file a ≡ absent
card_outside base file a h = both_tests (in_reach base a) _ _ _ ∙ shown_outside base a _ _ _ _ h

-- byte j of block k is byte 512 · k + j of the file
pub block_byte : (file : List ℕ) (k j : ℕ) → j < 512 → get_or (block file k) j 0 ≡ get_or file (512 * k + j) 0
block_byte file k j l = get_or-take 512 (drop (512 * k) file) j 0 l ∙ get_or-drop (512 * k) file j 0

-- past its 512 bytes a block has none
pub block_past : (file : List ℕ) (k j : ℕ) → 512 ≤ j → get_or (block file k) j 0 ≡ 0
block_past file k j l = get_or_past (block file k) j 0 (omega (arith, length-take 512 (drop (512 * k) file)))

pub block_bytes : (file : List ℕ) (k : ℕ) → Bytes file → Bytes (block file k)
block_bytes file k p j =
    ⊎_elim
    (λ (l : j < 512). omega (arith, block_byte file k j l, p (512 * k + j)))
    (λ (g : 512 ≤ j). omega (arith, block_past file k j g))
    (cases_lt j 512)

pub length-block : (file other : List ℕ) (k : ℕ) → length file ≡ length other → length (block file k) ≡ length (block other k)
length-block file other k e =
    simp (length-take, length-drop) (ap (λ n. min 512 (n - 512 * k)) e)

-- an address shows some block or none
pub cases_shows : (base : ℕ) (file : List ℕ) (a : ℕ) → ShowsSome base file a ⊎ (ShowsSome base file a → ⊥)
cases_shows base file a =
    ⊎_elim
    (λ (under : base < a + 1).
    let low : base ≤ a = omega arith in
    ⊎_elim
    (λ (top : a < 2 ^ 32).
    ⊎_elim (λ (in_file : (a - base) / 504 < block_count file). inl (low, top, in_file)) (λ out. inr (λ h. omega arith)) (cases_lt ((a - base) / 504) (block_count file)))
    (λ past. inr (λ h. omega arith))
    (cases_lt a (2 ^ 32)))
    (λ below. inr (λ h. omega arith))
    (cases_lt base (a + 1))
