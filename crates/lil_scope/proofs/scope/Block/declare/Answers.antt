use Rattle.std.proofs.Common.{rules, true, ◌≡◌, None, sym, ◌∙◌, ap, ◌++◌, ◌∷◌, [], map}
use Rattle.lil_scope.specs.Names.{entry_in, are_names}
use Rattle.lil_scope.proofs.Entries.{see, insert_map, bound_before, bound_new, names_kept}
use Rattle.lil_base.specs.Names.{is_name}
use Rattle.lil_scope.proofs.scope.Block.declare.Goals as goal

pub returns-in-Some-clause-entries : goal.returns-in-Some-clause-entries
returns-in-Some-clause-entries c = bound_before c.args.self.now c.args.name.now c.args.entry _ (sym c.entry.ensures ∙ c.in-Some.is)

pub returns-in_ok-insert-in-None-clause-entries : goal.returns-in_ok-insert-in-None-clause-entries
returns-in_ok-insert-in-None-clause-entries c =
    let none : entry_in c.args.self.now c.args.name.now ≡ None = sym c.entry.ensures ∙ c.in-None.is in
    let key : c.in_ok-key-in-None.key.items ≡ c.args.name.now = search rules in
    ap (map see) c.in_ok-insert-in-None.ensures.entries
    ∙ insert_map c.in_ok-key-in-None.key c.args.entry c.self.inside.names.entries ((λ j. entry_in (c.self.view_is j) (key j)) ∙ none)
    ∙ (λ j. c.self.view_is j ++ (key j, c.args.entry) ∷ [])
    ∙ bound_new c.args.self.now c.args.name.now c.args.entry none

pub invariant_of-self-in-None : goal.invariant_of-self-in-None
invariant_of-self-in-None c =
    let none : entry_in c.args.self.now c.args.name.now ≡ None = sym c.entry.ensures ∙ c.in-None.is in
    let key : c.in_ok-key-in-None.key.items ≡ c.args.name.now = search rules in
    let name : is_name c.in_ok-key-in-None.key.items ≡ true = ap is_name key ∙ c.as_slice.ensures.form in
    let new : entry_in (map see c.self.inside.names.entries) c.in_ok-key-in-None.key.items ≡ None = (λ j. entry_in (c.self.view_is j) (key j)) ∙ none in
    ap (λ es. are_names (map see es)) c.in_ok-insert-in-None.ensures.entries
    ∙ names_kept c.in_ok-key-in-None.key c.args.entry c.self.inside.names.entries new name c.self.invariant
