-- The numbers of the refusals.
use Rattle.std.specs.Prelude.{ℕ, ◌-◌, List, [], ◌∷◌, slice_index_or}
use Rattle.memory.specs.declared.refusal.Refusal.{Refusal}
use Rattle.memory.specs.declared.refusal.Refusal.TheVariants.{OddAddress, Absent, Unsound, UnknownCode, BadCondition, Misaligned, HalfOfSmallest, LineBegun, NoneFinished, LineOut, ForeignLease, ShortSpace, SceneFull, SceneEmpty, BadField, ProgramTooLong, BadHeight, PastTop}

-- the number of each refusal
abbrev pub number : Refusal → ℕ
number OddAddress = 1
number Absent = 2
number Unsound = 3
number UnknownCode = 4
number BadCondition = 5
number Misaligned = 6
number HalfOfSmallest = 7
number LineBegun = 8
number NoneFinished = 9
number LineOut = 10
number ForeignLease = 11
number ShortSpace = 12
number SceneFull = 13
number SceneEmpty = 14
number BadField = 15
number ProgramTooLong = 16
number BadHeight = 17
number PastTop = 18

-- all refusals in the order of their numbers, from 1
abbrev pub refusals : List Refusal
refusals = OddAddress ∷ Absent ∷ Unsound ∷ UnknownCode ∷ BadCondition ∷ Misaligned ∷ HalfOfSmallest ∷ LineBegun ∷ NoneFinished ∷ LineOut ∷ ForeignLease ∷ ShortSpace ∷ SceneFull ∷ SceneEmpty ∷ BadField ∷ ProgramTooLong ∷ BadHeight ∷ PastTop ∷ []

-- the refusal with a number from 1 to 18; contracts name refusals in this way
abbrev pub refusal : ℕ → Refusal
refusal n = slice_index_or refusals (n - 1) OddAddress
