-- A line cut at its spaces.
use Rattle.std.specs.Prelude.{◌≡◌, ℕ, ◌<◌, Bool, List, [], length, drop, Option, MatchOption, ◌==◌}
use Rattle.std.specs.List.{before_first, position_or_len, prefix_len}
use Rattle.std.specs.Borrow.{Bor}

-- a byte is a space
abbrev pub is_space : ℕ → Bool
is_space b = b == 32

-- the line from its first byte that is no space
abbrev pub trimmed : List ℕ → List ℕ
trimmed bs = drop (prefix_len is_space bs) bs

-- the first piece: all bytes up to the next space; empty where only spaces are left
abbrev pub first_piece : List ℕ → List ℕ
first_piece bs = before_first is_space (trimmed bs)

-- what stands behind the first piece
abbrev pub behind : List ℕ → List ℕ
behind bs = drop (position_or_len is_space (trimmed bs)) (trimmed bs)

-- the next piece is the first one of what is left, unless that is empty
abbrev pub NextPiece : List ℕ → Option (Bor (List ℕ)) → List ℕ → Type 0
NextPiece before piece after =
    MatchOption piece (first_piece before ≡ []) (λ p. (p.now ≡ first_piece before) × (0 < length p.now)) × (after ≡ behind before)
