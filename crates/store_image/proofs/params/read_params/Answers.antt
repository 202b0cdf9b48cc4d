use Rattle.std.proofs.Common.{ap}
use Rattle.store_image.specs.Loading.{values_of_head, and_then, params_in_pages}
use Rattle.store_image.proofs.params.read_params.Goals as goal

pub returns-in-Ok-clause-params : goal.returns-in-Ok-clause-params
unfolding params_in_pages
returns-in-Ok-clause-params c = ap (λ o. and_then o values_of_head) c.in-Ok.ensures.head

pub returns-in-Err-clause-params : goal.returns-in-Err-clause-params
unfolding params_in_pages
returns-in-Err-clause-params c = ap (λ o. and_then o values_of_head) c.in-Err.ensures.head
