-- A RAM as contracts see it.
use Rattle.std.specs.Prelude.{ℕ, Vec}
use Rattle.std.specs.declared.alloc.Global.{Global}

-- the address that its bytes begin at, and the vector of the bytes: where a RAM is as it was, so is the memory that it takes
pub record RamBytes : Type 0 where
  pub base : ℕ
  pub bytes : Vec ℕ Global
