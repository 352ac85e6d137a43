-- What `hex::decode` answers, in this crate's words.
use Rattle.std.proofs.Common.{◌≡◌, ℕ, ◌+◌, ◌*◌, ◌%◌, Bool, true, false, ◌&&◌, ltb, eqb, List, [], ◌∷◌, ◌<◌, inl, inr, length, Some, None, Ok, Err, Option, Result, refl, sym, subst, arith}
use Rattle.std.specs.Char.{digit_value, is_ascii_hexdigit}
use Rattle.std.proofs.lemmas.Bool.Decides.{nat_tests}
use Rattle.std.proofs.lemmas.Bool.{cases_eq, eq-eqb, ne_eqb, eqb-false}
use Rattle.script.specs.declared.errors.ScriptError.{ScriptError}
use Rattle.script.specs.declared.errors.ScriptError.TheVariants.{MalformedBytes}
use Rattle.hex.specs.Hex.{decode_of, decode_pairs, hex_digit_value, digit_or_error, ◌>>=◌}
use Rattle.hex.specs.declared.error.FromHexError.{FromHexError}
use Rattle.script.specs.Numbers.{all_digits}
use Rattle.script.specs.Bytes.{are_pairs, spelled_bytes, bytes_of}

-- a digit as `hex` reads it, and its value
abbrev IsDigit : Option ℕ → ℕ → Type 0
IsDigit (Some d) value = (ltb value 16 ≡ true) × (d ≡ value)
IsDigit None value = ltb value 16 ≡ false

digit : (c : ℕ) → IsDigit (hex_digit_value c) (digit_value c)
digit c = grind (arith, nat_tests)

-- a decoded text has digits alone, and its bytes are those that it spells
abbrev pub Decodes : Result (List ℕ) FromHexError → Bool → List ℕ → Type 0
Decodes (Ok bytes) digits spelled = (digits ≡ true) × (bytes ≡ spelled)
Decodes (Err e) digits spelled = digits ≡ false

pair : (a b i high low : ℕ) (h l : Option ℕ) (rest : Result (List ℕ) FromHexError) (digits : Bool) (spelled : List ℕ) → IsDigit h high → IsDigit l low → Decodes rest digits spelled
    → Decodes ((digit_or_error a i h >>= (λ x. digit_or_error b (i + 1) l >>= (λ y. Ok (x * 16 + y)))) >>= (λ byte. rest >>= (λ bytes. Ok (byte ∷ bytes))))
    (ltb high 16 && (ltb low 16 && digits)) ((16 * high + low) ∷ spelled)
pair a b i high low (Some x) (Some y) (Ok bytes) digits spelled p q r = grind arith
pair a b i high low (Some x) (Some y) (Err e) digits spelled p q r = grind arith
pair a b i high low (Some x) None rest digits spelled p q r = grind arith
pair a b i high low None l rest digits spelled p q r = grind arith

pub decodes : (i : ℕ) (bs : List ℕ) → length bs % 2 ≡ 0 → Decodes (decode_pairs i bs) (all_digits 16 bs) (spelled_bytes bs)
unfolding decode_pairs
decodes i [] even = (refl, refl)
decodes i (a ∷ []) even = absurd (omega arith)
decodes i (a ∷ b ∷ bs) even = pair a b i _ _ _ _ _ _ _ (digit a) (digit b) (decodes (i + 2) bs (omega arith))

-- the answer of `decode` is what the script says, but for the kind of the error
abbrev pub Reads : Result (List ℕ) FromHexError → Result (List ℕ) ScriptError → Type 0
Reads (Ok bytes) said = Ok bytes ≡ said
Reads (Err e) said = Err MalformedBytes ≡ said

even_reads : (bs : List ℕ) (r : Result (List ℕ) FromHexError) → 0 < length bs → length bs % 2 ≡ 0 → Decodes r (all_digits 16 bs) (spelled_bytes bs) → Reads r (bytes_of bs)
even_reads bs (Ok bytes) some even h = grind arith
even_reads bs (Err e) some even h = grind arith

pub reads : (bs : List ℕ) → false ≡ eqb (length bs) 0 → Reads (decode_of bs) (bytes_of bs)
reads bs is =
    let some : 0 < length bs = omega (arith, eqb-false _ 0 (sym is)) in
    elim (cases_eq (length bs % 2) 1) [
      | inl odd ↦ rw (eq-eqb _ _ odd) (grind arith)
      | inr even ↦ rw (ne_eqb _ _ even) (even_reads bs (decode_pairs 0 bs) some (omega arith) (decodes 0 bs (omega arith)))
    ]

-- a piece that is pairs of digits is decoded to the bytes that it spells
pub pairs_decode : (bs : List ℕ) → true ≡ are_pairs bs → Decodes (decode_of bs) true (spelled_bytes bs)
pairs_decode bs pairs =
    let even : length bs % 2 ≡ 0 = grind (arith, pairs) in
    let digits : all_digits 16 bs ≡ true = grind (arith, pairs) in
    rw (ne_eqb (length bs % 2) 1 (λ odd. omega (arith, even, odd)))
    (subst (λ d. Decodes (decode_pairs 0 bs) d (spelled_bytes bs)) digits (decodes 0 bs even))

-- the library's test of a digit is this crate's
pub hexdigit : (b : ℕ) → is_ascii_hexdigit b ≡ ltb (digit_value b) 16
hexdigit b = grind (arith, nat_tests)
