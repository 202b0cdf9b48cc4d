use Rattle.std.proofs.Common.{ap, refl}
use Rattle.count_book.specs.Counted.{anchored}
use Rattle.count_book.proofs.Changes.{given, wrote, kept}
use Rattle.count_book.proofs.book.CountBook.set_anchor.Goals as goal
use Rattle.count_book.proofs.book.CountBook.set_anchor.Goals.{in-Some, in-None}

pub returns : goal.returns
returns c =
    elim c.match-get_mut.branch [
      | in-Some w ↦ rw (w.self-inside-is, ← c.self.view_is) (ap (λ m. record { minpts = c.self.inside.minpts; rows = m })
          (wrote (anchored c.args.anchor) c.self.inside.rows _ c.args.number _ _ w.in-Some.ensures.value (given w.in-Some.is (c.get_mut.follows.holds _)) refl))
      | in-None w ↦ rw (w.self-inside-is, ← c.self.view_is) (ap (λ m. record { minpts = c.self.inside.minpts; rows = m })
          (kept (anchored c.args.anchor) c.self.inside.rows _ c.args.number w.in-None.ensures.value c.get_mut.follows.holds-at-none))
    ]
