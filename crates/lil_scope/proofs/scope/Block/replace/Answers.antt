use Rattle.std.proofs.Common.{◌≡◌, None, ap, sym, ◌∙◌, map}
use Rattle.lil_scope.specs.Names.{entry_in, are_names, rebound}
use Rattle.lil_scope.proofs.Entries.{see, look_map, rebound_map, rebound_none, names_rebound, none_as}
use Rattle.lil_scope.proofs.scope.Block.replace.Goals as goal

pub invariant_of-self : goal.invariant_of-self
invariant_of-self c =
    let names = c.self.inside.names.entries in
    ap are_names (rebound_map c.as_slice.result.now c.args.entry names c.in-Some.at c.in-Some.ensures.index)
    ∙ names_rebound (map see names) c.as_slice.result.now c.args.entry
    ∙ c.self.invariant

pub returns-in-Some-get_index_mut : goal.returns-in-Some-get_index_mut
returns-in-Some-get_index_mut c =
    rebound_map c.as_slice.result.now c.args.entry c.self.inside.names.entries c.in-Some.at c.in-Some.ensures.index
    ∙ (λ j. rebound (c.self.view_is j) (c.as_slice.ensures.value j) c.args.entry)

pub returns-in_default : goal.returns-in_default
returns-in_default c =
    let none = none_as c.get_index_of.result _ c.in_default.is c.get_index_of.ensures.found in
    rebound_none c.args.self.now c.args.name.now c.args.entry
    ((λ j. entry_in (sym c.self.view_is j) (sym c.as_slice.ensures.value j)) ∙ sym (look_map c.as_slice.result.now c.self.inside.names.entries) ∙ none)
