use Rattle.std.proofs.lemmas.List.{map-set}
use Rattle.plugin_api.proofs.ShelfLemmas.{seen_at, place_in}
use Rattle.plugin_api.proofs.plugin.call_hook.Goals as goal

pub returns : goal.returns
returns g c = record {
  was = _;
  hooks = _;
  at = seen_at _ c.args.shelf.now.items c.args.plugin c.index_mut.result.now (place_in _ _ _ _ c.requires) c.index_mut.ensures.value;
  set = map-set _ c.args.shelf.now.items c.args.plugin _;
  visited = c.call_in.ensures;
}
