use Rattle.std.proofs.Common.{sym, subst}
use Rattle.warehouse_core.specs.States.{IsClustered}
use Rattle.session_desk.specs.declared.serve.AnyWarehouse.{AnyWarehouse}
use Rattle.session_desk.specs.Talks.{Concludes, IsCutOff, IsEven, desk_of}
use Rattle.session_desk.specs.Opened.{state_of}
use Rattle.session_desk.proofs.serve.converse_by_metric.Goals as goal

abbrev IsStanding : AnyWarehouse → Type 0
IsStanding x = IsClustered (state_of x)

pub returns-in-L1-clause-answers : goal.returns-in-L1-clause-answers
returns-in-L1-clause-answers g c = λ s t stand fine.
    let P : AnyWarehouse → Type 0 = λ x. Concludes (desk_of g.W.Watcher.says_after (state_of x) c.args.session.feed) (g.S.Source.left c.args.source.now) c.hold_session.result (g.T.Site.state c.args.site.now) (g.T.Site.state c.hold_session.new.site) in
    subst P (sym c.in-L1.is) (c.hold_session.ensures.answers s t (subst IsStanding c.in-L1.is stand) fine)

pub returns-in-L1-clause-settled : goal.returns-in-L1-clause-settled
returns-in-L1-clause-settled g c = λ s t stand ended.
    let P : AnyWarehouse → Type 0 = λ x. IsEven (desk_of g.W.Watcher.says_after (state_of x) c.args.session.feed) (g.S.Source.left c.args.source.now) (g.T.Site.state c.args.site.now) (g.T.Site.state c.hold_session.new.site) in
    subst P (sym c.in-L1.is) (c.hold_session.ensures.settled s t (subst IsStanding c.in-L1.is stand) ended)

pub returns-in-Max-clause-answers : goal.returns-in-Max-clause-answers
returns-in-Max-clause-answers g c = λ s t stand fine.
    let P : AnyWarehouse → Type 0 = λ x. Concludes (desk_of g.W.Watcher.says_after (state_of x) c.args.session.feed) (g.S.Source.left c.args.source.now) c.hold_session-in-Max.result (g.T.Site.state c.args.site.now) (g.T.Site.state c.hold_session-in-Max.new.site) in
    subst P (sym c.in-Max.is) (c.hold_session-in-Max.ensures.answers s t (subst IsStanding c.in-Max.is stand) fine)

pub returns-in-Max-clause-settled : goal.returns-in-Max-clause-settled
returns-in-Max-clause-settled g c = λ s t stand ended.
    let P : AnyWarehouse → Type 0 = λ x. IsEven (desk_of g.W.Watcher.says_after (state_of x) c.args.session.feed) (g.S.Source.left c.args.source.now) (g.T.Site.state c.args.site.now) (g.T.Site.state c.hold_session-in-Max.new.site) in
    subst P (sym c.in-Max.is) (c.hold_session-in-Max.ensures.settled s t (subst IsStanding c.in-Max.is stand) ended)

pub returns-in-Hamming-clause-answers : goal.returns-in-Hamming-clause-answers
returns-in-Hamming-clause-answers g c = λ s t stand fine.
    let P : AnyWarehouse → Type 0 = λ x. Concludes (desk_of g.W.Watcher.says_after (state_of x) c.args.session.feed) (g.S.Source.left c.args.source.now) c.hold_session-in-Hamming.result (g.T.Site.state c.args.site.now) (g.T.Site.state c.hold_session-in-Hamming.new.site) in
    subst P (sym c.in-Hamming.is) (c.hold_session-in-Hamming.ensures.answers s t (subst IsStanding c.in-Hamming.is stand) fine)

pub returns-in-Hamming-clause-settled : goal.returns-in-Hamming-clause-settled
returns-in-Hamming-clause-settled g c = λ s t stand ended.
    let P : AnyWarehouse → Type 0 = λ x. IsEven (desk_of g.W.Watcher.says_after (state_of x) c.args.session.feed) (g.S.Source.left c.args.source.now) (g.T.Site.state c.args.site.now) (g.T.Site.state c.hold_session-in-Hamming.new.site) in
    subst P (sym c.in-Hamming.is) (c.hold_session-in-Hamming.ensures.settled s t (subst IsStanding c.in-Hamming.is stand) ended)

pub returns-in-L1-clause-whole : goal.returns-in-L1-clause-whole
returns-in-L1-clause-whole g c = λ s t stand fault.
    let P : AnyWarehouse → Type 0 = λ x. IsCutOff (desk_of g.W.Watcher.says_after (state_of x) c.args.session.feed) (g.S.Source.left c.args.source.now) (g.S.Source.left c.hold_session.new.source) (g.T.Site.state c.args.site.now) (g.T.Site.state c.hold_session.new.site) in
    subst P (sym c.in-L1.is) (c.hold_session.ensures.whole s t (subst IsStanding c.in-L1.is stand) fault)

pub returns-in-Max-clause-whole : goal.returns-in-Max-clause-whole
returns-in-Max-clause-whole g c = λ s t stand fault.
    let P : AnyWarehouse → Type 0 = λ x. IsCutOff (desk_of g.W.Watcher.says_after (state_of x) c.args.session.feed) (g.S.Source.left c.args.source.now) (g.S.Source.left c.hold_session-in-Max.new.source) (g.T.Site.state c.args.site.now) (g.T.Site.state c.hold_session-in-Max.new.site) in
    subst P (sym c.in-Max.is) (c.hold_session-in-Max.ensures.whole s t (subst IsStanding c.in-Max.is stand) fault)

pub returns-in-Hamming-clause-whole : goal.returns-in-Hamming-clause-whole
returns-in-Hamming-clause-whole g c = λ s t stand fault.
    let P : AnyWarehouse → Type 0 = λ x. IsCutOff (desk_of g.W.Watcher.says_after (state_of x) c.args.session.feed) (g.S.Source.left c.args.source.now) (g.S.Source.left c.hold_session-in-Hamming.new.source) (g.T.Site.state c.args.site.now) (g.T.Site.state c.hold_session-in-Hamming.new.site) in
    subst P (sym c.in-Hamming.is) (c.hold_session-in-Hamming.ensures.whole s t (subst IsStanding c.in-Hamming.is stand) fault)
