-- The sound blocks of a file are those whose states are Sound.
use Rattle.std.proofs.Common.{◌≡◌, ℕ, zero, suc, ◌+◌, ◌<◌, ◌≤◌, Bool, true, false, cond, List, length, get_or, take, count_by, sym, refl, ap, ◌∙◌, inl, inr, add-one, arith}
use Rattle.std.proofs.lemmas.Bool.{cases_Bool, cond-true, cond-false}
use Rattle.std.proofs.lemmas.List.Sums.{count_by_more_yes, count_by_more_no}
use Rattle.memory.specs.declared.block.BlockState.{BlockState}
use Rattle.memory.specs.declared.block.BlockState.TheVariants.{Sound, Unsound}
use Rattle.memory.specs.Cards.{sound_at, sound_count}
use Rattle.memory.specs.States.{is_sound, state_at}

pub is_sound_of : (b : Bool) → is_sound (cond b Sound Unsound) ≡ b
is_sound_of true = refl
is_sound_of false = refl

-- among the first n states as many are Sound as of the first n blocks are sound
pub count_states : (file : List ℕ) (states : List BlockState) (n : ℕ) → n ≤ length states
    → ((k : ℕ) → k < n → get_or states k Sound ≡ state_at file k) → count_by is_sound (take n states) ≡ sound_count file n
unfolding sound_count
count_states file states zero fits each = refl
count_states file states (suc n) fits each =
    let before : count_by is_sound (take n states) ≡ sound_count file n = count_states file states n (omega arith) (λ k h. each k (omega arith)) in
    let here : is_sound (get_or states n Sound) ≡ sound_at file n = ap is_sound (each n (omega arith)) ∙ is_sound_of (sound_at file n) in
    elim (cases_Bool (sound_at file n)) [
      | inl is_true ↦
          let more = count_by_more_yes is_sound states n Sound (omega arith) (here ∙ is_true) in
          ap (λ (i : ℕ). count_by is_sound (take i states)) (sym (add-one n)) ∙ more ∙ ap (λ (i : ℕ). i + 1) before ∙ sym (cond-true _ _ _ is_true)
      | inr is_false ↦
          let more = count_by_more_no is_sound states n Sound (omega arith) (here ∙ is_false) in
          ap (λ (i : ℕ). count_by is_sound (take i states)) (sym (add-one n)) ∙ more ∙ before ∙ sym (cond-false _ _ _ is_false)
    ]
