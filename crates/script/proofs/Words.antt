-- A word that is no text is no command word.
use Rattle.std.proofs.Common.{◌≡◌, ℕ, ◌<◌, true, false, List, [], ◌∷◌, length, Some, Ok, Err, codes, IsUtf8, sym, refl, ap, ◌∙◌, subst, arith}
use Rattle.std.proofs.lemmas.Bool.{false≢true}
use Rattle.std.proofs.lemmas.Bool.Decides.{same_from_decides}
use Rattle.std.proofs.lemmas.Slice.Eq.{bytes_eq-Decides}
use Rattle.std.proofs.lemmas.Str.{IsUtf8-from_is_utf8}
use lib.Utf8.{encode}
use Rattle.std.specs.Str.{bytes_eq, is_utf8, chars}
use Rattle.script.specs.declared.errors.ScriptError.TheVariants.{NoSuchCommand}
use Rattle.script.specs.Commands.{command_of, remark, has, word_of, pieces_of, line_of}
use Rattle.script.specs.Fields.{then}
use Rattle.script.specs.Pieces.{first_piece, behind}

no_text_word : (word bs : List ℕ) → (IsUtf8 word → ⊥) → Err NoSuchCommand ≡ command_of word bs
unfolding is_utf8 chars encode
no_text_word word bs no_text =
    let other : (ys : List ℕ) → is_utf8 ys ≡ true → bytes_eq word ys ≡ false =
    λ ys text. sym (same_from_decides false (bytes_eq word ys)
    (λ e. absurd (false≢true e), λ e. absurd (no_text (subst IsUtf8 (sym e) (IsUtf8-from_is_utf8 ys text)))) (bytes_eq-Decides word ys)) in
    rw (other (codes "card") refl, other (codes "ram") refl, other (codes "boundary") refl, other (codes "poke") refl, other (codes "peek") refl) refl

-- the first piece of a line is its word
at_word : (word bs : List ℕ) → 0 < length word → word_of word bs ≡ then (command_of word bs) (λ command. Ok (Some command))
at_word [] bs some = absurd (omega arith)
at_word (b ∷ word) bs some = refl

pub no_text_line : (rest word : List ℕ) → word ≡ first_piece rest → 0 < length word → (IsUtf8 word → ⊥) → Err NoSuchCommand ≡ pieces_of rest
no_text_line rest word is some no_text =
    rw (← is)
    (ap (λ said. then said (λ command. Ok (Some command))) (no_text_word word (behind rest) no_text) ∙ sym (at_word word (behind rest) some))

-- the same of a whole line, which is no remark and has no carriage return
pub no_text_whole_line : (line word : List ℕ) → word ≡ first_piece line → 0 < length word → false ≡ remark line → false ≡ has 13 line → (IsUtf8 word → ⊥) → Err NoSuchCommand ≡ line_of line
no_text_whole_line line word is some plain clean no_text = rw (← plain, ← clean) (no_text_line line word is some no_text)
