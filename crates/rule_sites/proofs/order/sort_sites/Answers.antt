use Rattle.std.proofs.Common.{◌≡◌, ap, rules}
use Rattle.std.specs.Ordering.{is_lt}
use Rattle.std.proofs.lemmas.List.Sorted.{answers_always}
use Rattle.std.proofs.lemmas.Result.{on_ok_weaker}
use Rattle.rule_sites.specs.Ordered.{site_cmp}
use Rattle.rule_sites.proofs.Orders.{is_before, strict, in_order_from_sorted}
use Rattle.rule_sites.proofs.order.sort_sites.Goals as goal

pub returns-clause-in_order : goal.returns-clause-in_order
returns-clause-in_order c = on_ok_weaker c.sort_by.result (λ sorted. in_order_from_sorted _ (sorted is_before strict (answers_always _ _ _ (λ f a r g k. let e : r ≡ site_cmp a.0.now a.1.0.now = search rules in ap is_lt e)))) c.sort_by.ensures.sorted
