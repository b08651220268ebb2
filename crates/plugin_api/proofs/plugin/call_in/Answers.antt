use Rattle.std.proofs.lemmas.List.{map-set}
use Rattle.plugin_api.proofs.ShelfLemmas.{seen_at}
use Rattle.plugin_api.proofs.plugin.call_in.Goals as goal

pub returns : goal.returns
returns g c = record {
  was = _;
  is = _;
  at = seen_at _ c.args.hooks.now.items c.args.hook c.index_mut.result.now c.requires c.index_mut.ensures.value;
  set = map-set _ c.args.hooks.now.items c.args.hook c.call_one.new.hook;
  visited = c.call_one.ensures;
}
