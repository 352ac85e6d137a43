-- What the data of a sound block are.
use Rattle.std.proofs.Common.{◌≡◌, ℕ, ◌<◌, true, ltb, List, Ok, ap, ◌∙◌, lt-ltb}
use Rattle.memory.specs.Outcomes.{even_answer}
use Rattle.memory.specs.Halfwords.{halfword}
use Rattle.memory.specs.Cards.{block, block_count, sound_at, block_outcome}

-- in a block that counts and is sound a data halfword is present
pub reads_sound : (file : List ℕ) (k j h : ℕ) (b : List ℕ) → k < block_count file → sound_at file k ≡ true → b ≡ block file k → h ≡ halfword b j
    → Ok h ≡ even_answer (block_outcome file k j)
reads_sound file k j h b within good is_block is =
    let counts : ltb k (block_count file) ≡ true = lt-ltb _ _ within in
    rw (counts, good) (ap Ok (is ∙ ap (λ (c : List ℕ). halfword c j) is_block))
