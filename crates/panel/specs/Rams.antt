-- The panel's RAM.
use Rattle.std.specs.Prelude.{◌≡◌, ℕ, ◌+◌, ◌-◌, ◌%◌, ◌<◌, ◌≤◌, Bool, true, false, ◌&&◌, ◌⊎◌, List, ◌++◌, length, take, drop, replicate, Ok, Err, vec_items, vec_len, Result, Vec, nat_le}
use Rattle.std.specs.declared.alloc.Global.{Global}
use Rattle.script.specs.declared.errors.ScriptError.{ScriptError}
use Rattle.script.specs.declared.errors.ScriptError.TheVariants.{RamTooLarge, NotInsideRam, OutOfMemory}
use Rattle.panel.specs.RamBytes.{RamBytes}

-- a RAM of these bytes from a base on
abbrev pub ram_bytes : ℕ → Vec ℕ Global → RamBytes
ram_bytes base bytes = record { base = base; bytes = bytes }

-- a RAM of zero bytes from an even base on
pub record Zeroed (base size : ℕ) (ram : RamBytes) : Type 0 where
  pub small : size ≤ 1048576
  pub even : ram.base ≡ base - base % 2
  pub zeros : vec_items ram.bytes ≡ replicate size 0

-- why there is none
abbrev pub NotMade : ℕ → ScriptError → Type 0
NotMade size e = ((e ≡ RamTooLarge) × (1048576 < size)) ⊎ ((e ≡ OutOfMemory) × (size ≤ 1048576))

-- n bytes from an address on lie wholly inside the RAM, and none past the address 0xFFFFFFFF
abbrev pub has_room : RamBytes → ℕ → ℕ → Bool
has_room ram address n = nat_le ram.base address && (nat_le (address - ram.base + n) (vec_len ram.bytes) && nat_le (address + n) 4294967296)

-- the old bytes with the new ones written over them from a place on
abbrev pub written_over : List ℕ → ℕ → List ℕ → List ℕ
written_over old at new = take at old ++ (new ++ drop (at + length new) old)

-- a RAM before and after bytes were written from an address on
pub record Poked (before : RamBytes) (address : ℕ) (new : List ℕ) (after : RamBytes) : Type 0 where
  pub room : has_room before address (length new) ≡ true
  pub same_base : after.base ≡ before.base
  pub bytes : vec_items after.bytes ≡ written_over (vec_items before.bytes) (address - before.base) new

-- bytes that a RAM has no room for leave it as it was
abbrev pub PokeOf : RamBytes → ℕ → List ℕ → Result (Unit {0}) ScriptError → RamBytes → Type 0
PokeOf before address new (Ok u) after = Poked before address new after
PokeOf before address new (Err e) after = (e ≡ NotInsideRam) × (has_room before address (length new) ≡ false) × (after ≡ before)
