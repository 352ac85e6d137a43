-- Where on its surface each of the five drawings finds the pixel of column x on line y: its region, and the place (u, v).
use Rattle.std.specs.Prelude.{ℕ, ◌*◌, ◌/◌, Bool, true, cond, ◌&&◌, ℤ, pos, ◌+ℤ◌, ◌-ℤ◌, ◌*ℤ◌, Some, None, Option, nat_lt, unsigned_abs}
use Rattle.std.specs.Int.{int_rem_euclid}
use Rattle.surface.specs.Surfaces.{square_side}
use Rattle.painter.specs.declared.ablit.Ablit.{Ablit}
use Rattle.painter.specs.declared.affine.Transform.{Transform}
use Rattle.painter.specs.declared.atile.Atile.{Atile}
use Rattle.painter.specs.declared.blit.Blit.{Blit}
use Rattle.painter.specs.declared.fill.Fill.{Fill}
use Rattle.painter.specs.declared.tile.Tile.{Tile}

-- a place, if the column is in the region
abbrev pub inside : Bool → ℕ × ℕ → Option (ℕ × ℕ)
inside region place = cond region (Some place) None

-- a − b, which may be negative
abbrev pub difference : ℕ → ℕ → ℤ
difference a b = pos a -ℤ pos b

-- z mod n, never negative
abbrev pub modulo : ℤ → ℕ → ℕ
modulo z n = unsigned_abs (int_rem_euclid z (pos n))

-- (a − b) mod 1024
abbrev pub apart : ℕ → ℕ → ℕ
apart a b = modulo (difference a b) 1024

-- fill: every column, at (0, 0)
abbrev pub fill_place : Fill → ℕ → ℕ → Option (ℕ × ℕ)
fill_place f y x = inside true (0, 0)

-- the region of a square: dx and dy are below its side
abbrev pub in_square : Blit → ℕ → ℕ → Bool
in_square b y x = nat_lt (apart x b.x0) (square_side b.size) && nat_lt (apart y b.y0) (square_side b.size)

-- blit: the columns of the square, at (dx, dy)
abbrev pub blit_place : Blit → ℕ → ℕ → Option (ℕ × ℕ)
blit_place b y x = inside (in_square b y x) (apart x b.x0, apart y b.y0)

-- tile: every column, at (dx, dy) mod 1024
abbrev pub tile_place : Tile → ℕ → ℕ → Option (ℕ × ℕ)
tile_place t y x = inside true (apart x t.xscroll, apart y t.yscroll)

-- floor (((a · dx + b · dy + 4 · c) mod 2^18) / 256)
abbrev pub affine : ℤ → ℤ → ℕ → ℤ → ℤ → ℕ
affine a b c dx dy = modulo (a *ℤ dx +ℤ b *ℤ dy +ℤ pos (4 * c)) 262144 / 256

-- the place that a transform takes (dx, dy) to
abbrev pub transformed : Transform → ℤ → ℤ → ℕ × ℕ
transformed t dx dy = (affine t.a00 t.a01 t.b0 dx dy, affine t.a10 t.a11 t.b1 dx dy)

-- the same scale in both directions, and no shift; 256 means 1
abbrev pub scaled : ℤ → Transform
scaled scale = record { b1 = 0; b0 = 0; a01 = pos 0; a00 = scale; a11 = scale; a10 = pos 0 }

-- the identity
abbrev pub identity : Transform
identity = scaled (pos 256)

-- ablit: the columns of the square, at the place that (dx, dy) is taken to; dx and dy are taken mod 1024 first
abbrev pub ablit_place : Ablit → ℕ → ℕ → Option (ℕ × ℕ)
ablit_place a y x = inside (in_square a.blit y x) (transformed a.transform (pos (apart x a.blit.x0)) (pos (apart y a.blit.y0)))

-- atile: every column, at the place that (dx, dy) is taken to; dx and dy stay signed
abbrev pub atile_place : Atile → ℕ → ℕ → Option (ℕ × ℕ)
atile_place a y x = inside true (transformed a.transform (difference x a.tile.xscroll) (difference y a.tile.yscroll))
