use Rattle.std.proofs.Common.{◌∙◌, ap}
use Rattle.number_map.specs.Lending.{replaced}
use Rattle.label_book.proofs.Taken.{within_list, taken_moved, taken_last, no_such}
use Rattle.label_book.proofs.parting.take_out.Goals as goal

pub take_out-requires : goal.take_out-requires
take_out-requires c = record {
  at = within_list c.args.places.now c.args.clusters.now c.requires.placed c.args.core c.in-Some.place c.in-Some-get_mut.cluster.now c.in-Some.ensures.value c.in-Some-get_mut.ensures.value;
}

pub returns-in-Some-take_out : goal.returns-in-Some-take_out
returns-in-Some-take_out c =
    taken_moved c.args.places.now c.replace.new.self c.args.clusters.now c.requires.placed c.args.core c.in-Some.place c.in-Some-get_mut.cluster.now c.take_out.new.self c.in-Some-take_out.moved
    c.in-Some.ensures.value c.in-Some-get_mut.ensures.value c.take_out.ensures.label c.take_out.ensures.members c.in-Some-take_out.ensures.moved
    (c.replace.ensures ∙ ap (λ m. replaced m c.in-Some-take_out.moved c.in-Some.place) c.remove.ensures.rest)

pub returns-in-None-take_out : goal.returns-in-None-take_out
returns-in-None-take_out c =
    taken_last c.args.places.now c.remove.new.self c.args.clusters.now c.requires.placed c.args.core c.in-Some.place c.in-Some-get_mut.cluster.now c.take_out.new.self
    c.in-Some.ensures.value c.in-Some-get_mut.ensures.value c.take_out.ensures.label c.take_out.ensures.members c.in-None-take_out.ensures.moved c.remove.ensures.rest

pub returns-in-None-get_mut : goal.returns-in-None-get_mut
returns-in-None-get_mut c = absurd (no_such c.args.places.now c.args.clusters.now c.requires.placed c.args.core c.in-Some.place c.in-Some.ensures.value c.in-None-get_mut.ensures.value)
