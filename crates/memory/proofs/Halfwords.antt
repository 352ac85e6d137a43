-- A halfword that is written is read back, and no other halfword changes.
use Rattle.std.proofs.Common.{◌≡◌, ℕ, ◌+◌, ◌/◌, ◌%◌, ◌<◌, ◌≤◌, ◌≢◌, List, length, get_or, take, set, ap, ◌∙◌, ⊎_elim, arith}
use Rattle.std.proofs.lemmas.List.{length-set, get_or-set_same, get_or-set_other, set_past, take-set-le}
use Rattle.std.proofs.lemmas.Bool.{cases_eq, cases_lt}
use Rattle.memory.specs.Halfwords.{halfword, put, Bytes}

pub length-put : (b : List ℕ) (i h : ℕ) → length (put b i h) ≡ length b
length-put b i h = simp length-set

pub halfword-put_same : (b : List ℕ) (i h : ℕ) → i + 1 < length b → halfword (put b i h) i ≡ h
halfword-put_same b i h within =
    let ne : i ≢ i + 1 = omega arith in
    let low : get_or (put b i h) i 0 ≡ h % 256 = get_or-set_other (set b i (h % 256)) (i + 1) i _ 0 ne ∙ get_or-set_same b i _ 0 (omega arith) in
    let high : get_or (put b i h) (i + 1) 0 ≡ h / 256 = get_or-set_same (set b i (h % 256)) (i + 1) _ 0 (simp length-set within) in
    omega (arith, low, high)

-- the halfword at j is apart from the one at i
abbrev pub Apart : ℕ → ℕ → Type 0
Apart i j = (i ≢ j) × (i ≢ j + 1) × (i + 1 ≢ j)

pub halfword-put_other : (b : List ℕ) (i j h : ℕ) → Apart i j → halfword (put b i h) j ≡ halfword b j
halfword-put_other b i j h apart =
    let first : j ≢ i = λ e. apart.0 (omega arith) in
    let second : j ≢ i + 1 = λ e. apart.2 (omega arith) in
    let third : j + 1 ≢ i = λ e. apart.1 (omega arith) in
    let fourth : j + 1 ≢ i + 1 = λ e. apart.0 (omega arith) in
    let low : get_or (put b i h) j 0 ≡ get_or b j 0 = get_or-set_other (set b i (h % 256)) (i + 1) j _ 0 second ∙ get_or-set_other b i j _ 0 first in
    let high : get_or (put b i h) (j + 1) 0 ≡ get_or b (j + 1) 0 = get_or-set_other (set b i (h % 256)) (i + 1) (j + 1) _ 0 fourth ∙ get_or-set_other b i (j + 1) _ 0 third in
    omega (arith, low, high)

pub take-put : (n : ℕ) (b : List ℕ) (i h : ℕ) → n ≤ i → take n (put b i h) ≡ take n b
take-put n b i h below =
    take-set-le n (set b i (h % 256)) (i + 1) _ (omega arith) ∙ take-set-le n b i _ below

-- a byte written among bytes leaves bytes
bytes_set : (b : List ℕ) (i x : ℕ) → Bytes b → x < 256 → Bytes (set b i x)
bytes_set b i x p small j =
    ⊎_elim
    (λ (at : j ≡ i).
    ⊎_elim
    (λ (l : i < length b). omega (arith, ap (λ n. get_or (set b i x) n 0) at, get_or-set_same b i x 0 l))
    (λ (past : length b ≤ i). omega (arith, ap (λ c. get_or c j 0) (set_past b i x past), p j))
    (cases_lt i (length b)))
    (λ (ne : j ≡ i → ⊥). omega (arith, get_or-set_other b i j x 0 ne, p j))
    (cases_eq j i)

pub bytes_put : (b : List ℕ) (i h : ℕ) → Bytes b → h < 65536 → Bytes (put b i h)
bytes_put b i h p small =
    bytes_set (set b i (h % 256)) (i + 1) (h / 256) (bytes_set b i (h % 256) p (omega arith)) (omega arith)
