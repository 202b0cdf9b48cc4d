use Rattle.std.proofs.Common.{◌≡◌, ℕ, ◌+◌, List, length, Ok, sym, ◌∙◌, ap, subst, arith}
use Rattle.std.specs.List.{AllByRecursion}
use Rattle.vec_record.specs.Vectors.{IsVector, IsWidth}
use Rattle.vec_record.specs.Distance.{distance_of}
use Rattle.vec_record.specs.declared.kind.MetricKind.{MetricKind}
use Rattle.kept_clusters.specs.Kept.{Kept, with_tags}
use Rattle.page_layout.specs.Heads.{Values, HeadValue, plain, IsHead}
use Rattle.page_layout.specs.Bodies.{IsBody}
use Rattle.page_gate.specs.Writes.{pairs, written, new_count, IsPlan}
use Rattle.store_image.specs.Images.{image_with}
use Rattle.store_image.specs.Placing.{writes_from, bodies_on, saved_on, saved_head, saved_laid, saved_image, IsKept}
use Rattle.store_image.specs.SavedLaws.{IsOfKind}
use Rattle.store_image.specs.inside.Saves.{next_pages}
use Rattle.store_image.proofs.PlanSaved.{next_are, next_are_pages, can_plan, tags_fit, refs_long, paged_after, kept_after}
use Rattle.store_image.proofs.plan.plan_save.Goals as goal

pub overflow_sub-count : goal.overflow_sub-count
overflow_sub-count g c =
    let s = c.args.state.now in
    let h = plain s.head in
    let pages = c.args.pages.now.list in
    let bodies = bodies_on h pages in
    let next = c.in_ok-next.ensures.next in
    let can = c.in_ok-next.ensures.saved in
    let facts = can_plan g.M.Metric.dist g.M.Metric.most h pages s.records s.clusters c.saved_are_read.ensures c.layouts_are_sized.ensures c.requires.paged.are can
    c.saved_are_lawful.ensures c.heads_count_pages.ensures in
    let count : c.in_ok-next.next.head.pages ≡ 2 + length (saved_laid h.values bodies s.records.vectors s.clusters).kinds = ap (λ (x : HeadValue). x.pages) next.head in
    omega (arith, count, facts.no_fewer, c.count.ensures)

pub plan_pages-requires-clause-head : goal.plan_pages-requires-clause-head
plan_pages-requires-clause-head g c =
    let s = c.args.state.now in
    let h = plain s.head in
    let pages = c.args.pages.now.list in
    let bodies = bodies_on h pages in
    let next = c.in_ok-next.ensures.next in
    let can = c.in_ok-next.ensures.saved in
    let facts = can_plan g.M.Metric.dist g.M.Metric.most h pages s.records s.clusters c.saved_are_read.ensures c.layouts_are_sized.ensures c.requires.paged.are can
    c.saved_are_lawful.ensures c.heads_count_pages.ensures in
    subst IsHead (sym next.head) facts.lawful.head

pub plan_pages-requires-clause-bodies : goal.plan_pages-requires-clause-bodies
plan_pages-requires-clause-bodies g c =
    let s = c.args.state.now in
    let h = plain s.head in
    let pages = c.args.pages.now.list in
    let bodies = bodies_on h pages in
    let next = c.in_ok-next.ensures.next in
    let can = c.in_ok-next.ensures.saved in
    let facts = can_plan g.M.Metric.dist g.M.Metric.most h pages s.records s.clusters c.saved_are_read.ensures c.layouts_are_sized.ensures c.requires.paged.are can
    c.saved_are_lawful.ensures c.heads_count_pages.ensures in
    subst (AllByRecursion (IsBody h.values)) (sym (next_are h bodies s.records.vectors s.clusters c.in_ok-next.next next)) facts.lawful.each

pub retag-requires : goal.retag-requires
retag-requires g c =
    let s = c.args.state.now in
    let h = plain s.head in
    let pages = c.args.pages.now.list in
    let bodies = bodies_on h pages in
    let next = c.in_ok-next.ensures.next in
    let can = c.in_ok-next.ensures.saved in
    let long = refs_long g.M.Metric.dist g.M.Metric.most h pages s.records s.clusters c.saved_are_read.ensures c.layouts_are_sized.ensures c.requires.paged.are can in
    record { tags = tags_fit c.deref.result.now s.clusters.tree.height s.clusters.tree.root (ap length (c.deref.ensures.value ∙ next.refs) ∙ long) }

pub returns-clause-plan : goal.returns-clause-plan
returns-clause-plan g c =
    let s = c.args.state.now in
    let h = plain s.head in
    let pages = c.args.pages.now.list in
    let bodies = bodies_on h pages in
    let next = c.in_ok-next.ensures.next in
    let can = c.in_ok-next.ensures.saved in
    let facts = can_plan g.M.Metric.dist g.M.Metric.most h pages s.records s.clusters c.saved_are_read.ensures c.layouts_are_sized.ensures c.requires.paged.are can
    c.saved_are_lawful.ensures c.heads_count_pages.ensures in
    let writes : pairs c.in_ok-writes.writes ≡ writes_from 1 pages (saved_on h pages s.records.vectors s.clusters) =
    c.in_ok-writes.ensures
    ∙ ap (λ (l : List (List ℕ)). writes_from 1 l (next_pages h.values c.in_ok-next.next s.records.vectors s.clusters)) c.in_ok-reserve.ensures.same
    ∙ ap (writes_from 1 pages) (next_are_pages h pages s.records.vectors s.clusters c.in_ok-next.next next) in
    subst (IsPlan pages) (sym writes) facts.plan

pub returns-clause-room : goal.returns-clause-room
returns-clause-room g c =
    let s = c.args.state.now in
    let h = plain s.head in
    let pages = c.args.pages.now.list in
    let bodies = bodies_on h pages in
    let next = c.in_ok-next.ensures.next in
    let can = c.in_ok-next.ensures.saved in
    let facts = can_plan g.M.Metric.dist g.M.Metric.most h pages s.records s.clusters c.saved_are_read.ensures c.layouts_are_sized.ensures c.requires.paged.are can
    c.saved_are_lawful.ensures c.heads_count_pages.ensures in
    let writes : pairs c.in_ok-writes.writes ≡ writes_from 1 pages (saved_on h pages s.records.vectors s.clusters) =
    c.in_ok-writes.ensures
    ∙ ap (λ (l : List (List ℕ)). writes_from 1 l (next_pages h.values c.in_ok-next.next s.records.vectors s.clusters)) c.in_ok-reserve.ensures.same
    ∙ ap (writes_from 1 pages) (next_are_pages h pages s.records.vectors s.clusters c.in_ok-next.next next) in
    let count : c.in_ok-next.next.head.pages ≡ 2 + length (saved_laid h.values bodies s.records.vectors s.clusters).kinds = ap (λ (x : HeadValue). x.pages) next.head in
    omega (arith, count, ap new_count writes, facts.count, c.count.ensures, c.in_ok-reserve.ensures.ok)

pub returns-clause-writes : goal.returns-clause-writes
returns-clause-writes g c =
    let s = c.args.state.now in
    let h = plain s.head in
    let pages = c.args.pages.now.list in
    let bodies = bodies_on h pages in
    let next = c.in_ok-next.ensures.next in
    let can = c.in_ok-next.ensures.saved in
    let writes : pairs c.in_ok-writes.writes ≡ writes_from 1 pages (saved_on h pages s.records.vectors s.clusters) =
    c.in_ok-writes.ensures
    ∙ ap (λ (l : List (List ℕ)). writes_from 1 l (next_pages h.values c.in_ok-next.next s.records.vectors s.clusters)) c.in_ok-reserve.ensures.same
    ∙ ap (writes_from 1 pages) (next_are_pages h pages s.records.vectors s.clusters c.in_ok-next.next next) in
    writes

pub returns-clause-written : goal.returns-clause-written
returns-clause-written g c =
    let s = c.args.state.now in
    let h = plain s.head in
    let pages = c.args.pages.now.list in
    let bodies = bodies_on h pages in
    let next = c.in_ok-next.ensures.next in
    let can = c.in_ok-next.ensures.saved in
    let facts = can_plan g.M.Metric.dist g.M.Metric.most h pages s.records s.clusters c.saved_are_read.ensures c.layouts_are_sized.ensures c.requires.paged.are can
    c.saved_are_lawful.ensures c.heads_count_pages.ensures in
    let writes : pairs c.in_ok-writes.writes ≡ writes_from 1 pages (saved_on h pages s.records.vectors s.clusters) =
    c.in_ok-writes.ensures
    ∙ ap (λ (l : List (List ℕ)). writes_from 1 l (next_pages h.values c.in_ok-next.next s.records.vectors s.clusters)) c.in_ok-reserve.ensures.same
    ∙ ap (writes_from 1 pages) (next_are_pages h pages s.records.vectors s.clusters c.in_ok-next.next next) in
    ap (written pages) writes ∙ facts.written_is

pub returns-clause-loads : goal.returns-clause-loads
returns-clause-loads g c =
    let s = c.args.state.now in
    let h = plain s.head in
    let pages = c.args.pages.now.list in
    let bodies = bodies_on h pages in
    let next = c.in_ok-next.ensures.next in
    let can = c.in_ok-next.ensures.saved in
    let width : IsWidth s.records.width = subst IsWidth c.requires.kept.fits.held.same_width can.lawful.width in
    let alike : IsOfKind h s.records g.M.Metric.dist = λ (u : List ℕ) (v : List ℕ) (one : IsVector s.records.width u) (two : IsVector s.records.width v).
    let both = g.met.M.Metric.defined s.records.width u v width one two in
    both.0 ∙ ap (λ (k : MetricKind). distance_of k u v) (sym c.requires.kind) in
    let image : image_with (plain c.in_ok-next.next.head) s.records c.retag.new.self ≡ saved_image h bodies s.records s.clusters =
    ap (λ (x : HeadValue). image_with x s.records c.retag.new.self) next.head
    ∙ ap (λ (k : Kept). image_with (saved_head h bodies s.records.vectors s.clusters) s.records k)
    (c.retag.ensures.tagged ∙ ap (λ (l : List ℕ). with_tags l s.clusters) (c.deref.ensures.value ∙ next.refs)) in
    λ hung. c.saved_load.ensures g.M.Metric.dist g.M.Metric.most h bodies pages s.records s.clusters c.requires.paged.are can hung alike ∙ ap Ok (sym image)

pub returns-clause-paged : goal.returns-clause-paged
returns-clause-paged g c =
    let s = c.args.state.now in
    let h = plain s.head in
    let pages = c.args.pages.now.list in
    let bodies = bodies_on h pages in
    let next = c.in_ok-next.ensures.next in
    let can = c.in_ok-next.ensures.saved in
    paged_after g.M.Metric.dist g.M.Metric.most h pages s.records s.clusters c.saved_are_read.ensures c.layouts_are_sized.ensures c.requires.paged.are can
    c.records_stand.ensures (plain c.in_ok-next.next.head) (record { kinds = c.in_ok-next.next.laid.kinds; numbers = c.in_ok-next.next.numbers }) next.head next.kinds next.numbers

pub returns-clause-kept : goal.returns-clause-kept
returns-clause-kept g c =
    let s = c.args.state.now in
    let h = plain s.head in
    let pages = c.args.pages.now.list in
    let bodies = bodies_on h pages in
    let next = c.in_ok-next.ensures.next in
    let can = c.in_ok-next.ensures.saved in
    subst (λ (v : Values). IsKept v s.records c.retag.new.self) (sym (ap (λ (x : HeadValue). x.values) next.head))
    (kept_after c.tags_keep.ensures h.values c.deref.result.now s.records s.clusters c.retag.new.self c.retag.ensures.tagged (c.retag.ensures.fits s.records) c.requires.kept)
