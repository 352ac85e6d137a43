-- What is printed of a fault.
use Rattle.std.specs.Prelude.{ℕ, List, ◌++◌, codes}
use Rattle.std.specs.Fmt.{decimal}
use Rattle.memory.specs.Refusals.{number}
use Rattle.memory.specs.Texts.{hexadecimal}
use Rattle.surface.specs.declared.fault.Fault.{Fault}
use Rattle.surface.specs.declared.fault.Reading.{Reading}
use Rattle.surface.specs.declared.fault.Reading.TheVariants.{TileIndex, Pixel}

-- what was read, in words
abbrev pub reading_text : Reading → List ℕ
reading_text TileIndex = codes "tile index"
reading_text Pixel = codes "pixel"

-- a fault: the refusal, what was read and where
abbrev pub fault_text : Fault → List ℕ
fault_text f = codes "refused " ++ (decimal (number f.refusal) ++ (codes ", reading " ++ (reading_text f.reading ++ (codes " 0x" ++ hexadecimal 8 f.address))))
