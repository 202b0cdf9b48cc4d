use Rattle.std.proofs.Common.{◌∙◌, List, ℕ, ap, ◌++◌}
use Rattle.std.proofs.lemmas.Result.{on_ok_weaker}
use Rattle.plain_dbscan.specs.Cases.{decline}
use Rattle.update_seed.specs.Books.{core_in, near_in}
use Rattle.delete_case.specs.inside.Cutting.{IsOneCut}
use Rattle.delete_case.proofs.Parts.{cut_from}
use Rattle.delete_case.proofs.Results.{on_ok}
use Rattle.delete_case.proofs.parting.part_one.Goals as goal

pub part-requires : goal.part-requires
part-requires g c = c.in_ok-groups.ensures.groups.parting

pub returns-clause-cut : goal.returns-clause-cut
returns-clause-cut g c =
    let scene = c.args.scene.now in
    let core = core_in c.args.counts.now in
    let near = near_in g.M.Metric.dist scene.eps scene.records.now in
    on_ok c.push_decline.result (IsOneCut core near c.args.labels.now c.args.former.now c.part.new.self) (record {
      cut = cut_from core near c.args.labels.now c.part.new.self c.args.former.now c.in_ok-groups.groups c.in_ok-groups.ensures.groups c.in_ok-new.ensures.ok;
      others = c.in_ok-new.ensures.ok.others;
    })

pub returns-clause-told : goal.returns-clause-told
returns-clause-told g c =
    on_ok_weaker c.push_decline.result
    (λ e. record {
      labels = c.in_ok-new.new;
      risen = record { are = c.in_ok-new.ensures.labels; rising = c.in_ok-new.ensures.rising };
      told = e ∙ ap (λ (ks : List ℕ). c.args.out.now ++ decline c.args.former.now.label ks) c.as_slice.ensures;
    })
    c.push_decline.ensures.ok
