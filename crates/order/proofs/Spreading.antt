-- Magnitudes in scan order put down by rows, one by one, whatever stood there before: each scan place is met once, so
-- that what is put stays.
use mathlib.Core.Path.{◌≡◌, ◌∙◌}
use mathlib.Core.List.{List}
use Prim.Native.Nat.{ℕ, ◌+◌, ◌*◌, ◌<◌}
use native.Mathlib.Omega.{arith}
use borrow.Author.Count.{below_more}
use lib.ListN.{length, get_or, set}
use lib.Seq.{get_or-set_same, get_or-set_other}
use Rattle.scan.specs.Scan.{scan_at}
use Rattle.scan.specs.Scanned.{Scanned}
use Rattle.weights.proofs.Places.{inside, apart}

-- before place n
abbrev pub Spread : (w h n : ℕ) → (rows ms : List ℕ) → Type 0
Spread w h n rows ms = (k : ℕ) → k < n → get_or rows (scan_at w h k) 0 ≡ get_or ms k 0

pub spread_more : (w h : ℕ) (held : List ℕ) → Scanned w h held → (rows ms : List ℕ) → length rows ≡ w * h → (n : ℕ)
    → n < w * h
    → Spread w h n rows ms
    → Spread w h (n + 1) (set rows (scan_at w h n) (get_or ms n 0)) ms
spread_more w h held sc rows ms room n lt old =
    below_more (λ (k : ℕ). get_or (set rows (scan_at w h n) (get_or ms n 0)) (scan_at w h k) 0 ≡ get_or ms k 0) n
    (λ k l.
    get_or-set_other rows (scan_at w h n) (scan_at w h k) (get_or ms n 0) 0
    (λ e. let q = apart w h held sc k n (omega arith) lt e in let no : ⊥ = omega arith in no)
    ∙ old k l)
    (get_or-set_same rows (scan_at w h n) (get_or ms n 0) 0 (omega (arith, inside w h held sc n lt)))
