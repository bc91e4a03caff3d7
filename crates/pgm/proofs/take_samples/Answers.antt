-- `pgm::take_samples` meets its contract: the first i samples are good and stored.
use Rattle.std.proofs.Common.{◌≡◌, ℕ, ◌+◌, List, Some, refl, sym, ap, ◌∙◌, add-one, arith, below_more}
use borrow.Author.Count.{below_none}
use Rattle.integers.proofs.Fill.{filled_more}
use Rattle.pgm.specs.declared.head.Form.{Form}
use Rattle.pgm.specs.declared.Number.{Number}
use Rattle.pgm.specs.Number.{sample_at}
use Rattle.pgm.specs.Samples.{start_of, nth}
use Rattle.pgm.proofs.take_samples.Goals as goal

-- the sample that was read is the one that the definitions have there, and it ends where the next begins
here : (bytes : List ℕ) (form : Form) (at from k : ℕ) (s : Number) → from ≡ start_of bytes form at k
    → Some s ≡ sample_at bytes form from → nth bytes form at k ≡ Some s
here bytes form at from k s e f = sym (f ∙ ap (λ (n : ℕ). sample_at bytes form n) e)

next_start : (bytes : List ℕ) (form : Form) (at k : ℕ) (s : Number) → nth bytes form at k ≡ Some s
    → s.next ≡ start_of bytes form at (k + 1)
unfolding start_of
next_start bytes form at k s e = rw (add-one, e) refl

pub loop-i-init : goal.loop-i-init
unfolding start_of
loop-i-init c = record { start = refl; good = below_none _; stored = below_none _ }

pub loop-i-preserved : goal.loop-i-preserved
loop-i-preserved c =
    let l = c.loop-i in
    let form = c.args.form in
    let at = c.args.at in
    let bytes = c.args.bytes.now in
    let e = here bytes form at l.from l.i c.in-Some.sample l.invariant.start c.in-Some.ensures in
    record {
      start = next_start bytes form at l.i c.in-Some.sample e;
      good = below_more _ _ l.invariant.good (rw e (refl, c.if-most-sample.false));
      stored = filled_more 0 l.camera _ l.i _ (omega arith) (rw e c.scaled.ensures.0) l.invariant.stored;
    }
