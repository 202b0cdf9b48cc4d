use Rattle.std.proofs.Common.{sym, ap, subst, IsSome}
use Rattle.std.specs.FinMap as map
use Rattle.count_book.specs.Counted.{one_more}
use Rattle.count_book.proofs.Changes.{given, absent, wrote, kept, became_core, stays_core}
use Rattle.count_book.proofs.book.CountBook.add_one.Goals as goal
use Rattle.count_book.proofs.book.CountBook.add_one.Goals.{in-Some, in-None}

pub returns-clause-rest : goal.returns-clause-rest
returns-clause-rest c =
    elim c.match-get_mut.branch [
      | in-Some w ↦ rw (w.self-inside-is, ← c.self.view_is) (ap (λ m. record { minpts = c.self.inside.minpts; rows = m })
          (wrote (one_more) c.self.inside.rows _ c.args.number _ w.raise.new.self w.in-Some.ensures.value (given w.in-Some.is (c.get_mut.follows.holds w.raise.new.self)) w.raise.ensures.row))
      | in-None w ↦ rw (w.self-inside-is, ← c.self.view_is) (ap (λ m. record { minpts = c.self.inside.minpts; rows = m })
          (kept (one_more) c.self.inside.rows _ c.args.number w.in-None.ensures.value c.get_mut.follows.holds-at-none))
    ]

pub returns-clause-value : goal.returns-clause-value
returns-clause-value c = elim c.match-get_mut.branch [
  | in-Some w ↦ rw (w.self-inside-is, w.result-is, ← c.self.view_is) (became_core c.self.inside.minpts c.self.inside.rows _ c.args.number _ w.raise.new.self _ w.in-Some.ensures.value
      (given w.in-Some.is (c.get_mut.follows.holds w.raise.new.self)) w.raise.ensures.value)
  | in-None w ↦ absurd (absent _ w.in-None.ensures.value (subst (λ s. IsSome (map.get s.rows c.args.number)) (sym c.self.view_is) c.requires))
]

pub returns-clause-stays : goal.returns-clause-stays
returns-clause-stays c = elim c.match-get_mut.branch [
  | in-Some w ↦ rw (w.self-inside-is, ← c.self.view_is) (stays_core c.self.inside.minpts c.self.inside.rows _ c.args.number _ w.raise.new.self w.in-Some.ensures.value
      (given w.in-Some.is (c.get_mut.follows.holds w.raise.new.self)) w.raise.ensures.stays)
  | in-None w ↦ absurd (absent _ w.in-None.ensures.value (subst (λ s. IsSome (map.get s.rows c.args.number)) (sym c.self.view_is) c.requires))
]
