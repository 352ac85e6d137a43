-- Drawings by their format, and drawings that paint alike.
use Rattle.std.proofs.Common.{◌≡◌, ℕ, ◌%◌, ◌<◌, false, List, ℤ, pos, negsuc, Some, Option, ap, ◌∙◌, arith}
use mathlib.Core.Path.{fun_ext}
use Rattle.memory.specs.Outcomes.{Outcome}
use Rattle.surface.specs.Formats.{layout_of}
use Rattle.surface.specs.Lookups.{Lookup}
use Rattle.painter.specs.declared.blit.Blit as blit
use Rattle.painter.specs.declared.tile.Tile as tile
use Rattle.painter.specs.declared.clip.Clip.{Clip}
use Rattle.painter.specs.declared.drawing.Drawing.TheVariants.{Blit, Tile}
use Rattle.painter.specs.Drawings.{side_of, lookup_in, ChangesNothing}
use Rattle.painter.specs.Mappings.{inside, difference, modulo, apart, in_square, blit_place, tile_place, ablit_place, atile_place, transformed, identity}
use Rattle.painter.specs.Spans.{span, painted}
use Rattle.painter.proofs.Coordinates.{along_x, along_y}

below_1024 : (z : ℤ) → modulo z 1024 < 1024
below_1024 (pos n) = omega arith
below_1024 (negsuc n) = omega arith

-- the identity takes every distance to itself, mod 1024
unmoved : (dx dy : ℤ) → transformed identity dx dy ≡ (modulo dx 1024, modulo dy 1024)
unmoved dx dy = ap (λ u. (u, (transformed identity dx dy).1)) (along_x dx dy) ∙ ap (λ v. (modulo dx 1024, v)) (along_y dx dy)

ablit_unmoved : (b : blit.Blit) (y x : ℕ) → ablit_place (record { blit = b; half = false; transform = identity }) y x ≡ blit_place b y x
ablit_unmoved b y x =
    let u : ℕ = apart x b.x0 in
    let v : ℕ = apart y b.y0 in
    let eu : u % 1024 ≡ u = omega (arith, below_1024 (difference x b.x0)) in
    let ev : v % 1024 ≡ v = omega (arith, below_1024 (difference y b.y0)) in
    ap (inside (in_square b y x)) (unmoved (pos u) (pos v) ∙ ap (λ w. (w, v % 1024)) eu ∙ ap (λ w. (u, w)) ev)

atile_unmoved : (t : tile.Tile) (y x : ℕ) → atile_place (record { tile = t; transform = identity }) y x ≡ tile_place t y x
atile_unmoved t y x = ap Some (unmoved (difference x t.xscroll) (difference y t.yscroll))

-- places that agree give spans that paint alike
same_places : (memory : ℕ → Outcome) (palette : ℕ → ℕ) (clip : Clip) (p q : ℕ → Option (ℕ × ℕ)) (side : ℕ) (lookup : ℕ → ℕ → Lookup) (line : List ℕ)
    → ((x : ℕ) → p x ≡ q x) → painted (span memory palette clip p side lookup) line ≡ painted (span memory palette clip q side lookup) line
same_places memory palette clip p q side lookup line e = ap (λ (f : ℕ → Option (ℕ × ℕ)). painted (span memory palette clip f side lookup) line) (fun_ext e)

pub identity_changes_nothing : ChangesNothing identity
identity_changes_nothing = record {
  ablit = λ b memory palette clip y line. same_places memory palette clip _ _ (side_of (Blit b)) (lookup_in (layout_of b.format) (Blit b)) line (ablit_unmoved b y);
  atile = λ t memory palette clip y line. same_places memory palette clip _ _ (side_of (Tile t)) (lookup_in (layout_of t.format) (Tile t)) line (atile_unmoved t y);
}
