use Rattle.std.proofs.Common.{◌∙◌, ◌++◌, ◌∷◌, [], List, ap}
use Rattle.def_entry.specs.Keys.{key}
use Rattle.def_entry.specs.declared.key.Key.{Key}
use Rattle.live_table.proofs.TriedLookups.{tried_node_key_is_appended}
use Rattle.live_table.proofs.tried_keys.TriedKeys.push.Goals as goal

pub returns : goal.returns
returns c =
    tried_node_key_is_appended c.self.inside.names.items c.args.name.now c.extend_from_slice.new.self.items
    c.self.inside.keys.items
    c.push.new.self.items c.args.kind c.len-start.result c.len-end.result c.self.invariant
    c.in_ok-extend_from_slice.ensures.items c.in_ok-push.ensures.items (c.len-start.ensures ∙ c.self.inside.names.ok.0)
    (c.len-end.ensures ∙ c.extend_from_slice.new.self.ok.0)
    ∙ ap (λ (ks : List Key). ks ++ key c.args.kind c.args.name.now ∷ []) c.self.view_is
