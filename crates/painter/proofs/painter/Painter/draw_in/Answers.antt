use Rattle.painter.proofs.painter.Painter.draw_in.Goals as goal

pub returns-in-Blit : goal.returns-in-Blit
returns-in-Blit g c = rw (← c.requires, c.in-Blit.is) (rw c.surface.ensures at c.paint-in-Blit.ensures)

pub returns-in-Tile : goal.returns-in-Tile
returns-in-Tile g c = rw (← c.requires, c.in-Tile.is) (rw c.surface-in-Tile.ensures at c.paint-in-Tile.ensures)

pub returns-in-Ablit : goal.returns-in-Ablit
returns-in-Ablit g c = rw (← c.requires, c.in-Ablit.is) (rw c.surface-in-Ablit.ensures at c.paint-in-Ablit.ensures)

pub returns-in-Atile : goal.returns-in-Atile
returns-in-Atile g c = rw (← c.requires, c.in-Atile.is) (rw c.surface-in-Atile.ensures at c.paint-in-Atile.ensures)
