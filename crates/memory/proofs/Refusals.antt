-- Each refusal is the one that its number names.
use Rattle.std.proofs.Common.{◌≡◌, ◌+◌, refl}
use denote.Enum.Declared.{tag_of}
use Rattle.memory.specs.contracts.refusal.Refusal.{the_type}
use Rattle.memory.specs.declared.refusal.Refusal.{Refusal}
use Rattle.memory.specs.declared.refusal.Refusal.TheVariants.{OddAddress, Absent, Unsound, UnknownCode, BadCondition, Misaligned, HalfOfSmallest, LineBegun, NoneFinished, LineOut, ForeignLease, ShortSpace, SceneFull, SceneEmpty, BadField, ProgramTooLong, BadHeight, PastTop}
use Rattle.memory.specs.Refusals.{refusal}

-- a variant's place counts from 0, a refusal's number from 1
pub refusal_at_place : (r : Refusal) → refusal (tag_of the_type r + 1) ≡ r
refusal_at_place OddAddress = refl
refusal_at_place Absent = refl
refusal_at_place Unsound = refl
refusal_at_place UnknownCode = refl
refusal_at_place BadCondition = refl
refusal_at_place Misaligned = refl
refusal_at_place HalfOfSmallest = refl
refusal_at_place LineBegun = refl
refusal_at_place NoneFinished = refl
refusal_at_place LineOut = refl
refusal_at_place ForeignLease = refl
refusal_at_place ShortSpace = refl
refusal_at_place SceneFull = refl
refusal_at_place SceneEmpty = refl
refusal_at_place BadField = refl
refusal_at_place ProgramTooLong = refl
refusal_at_place BadHeight = refl
refusal_at_place PastTop = refl
