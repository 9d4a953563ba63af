-- One token decides each production of the grammar, and each syntax that is read by itself.
use Rattle.std.proofs.Common.{◌≡◌, ℕ, true, refl}
use Rattle.lil_grammar.specs.Steps.{same_mark, same_word}
use Rattle.lil_syntax.specs.Syntax.{sound_at, decided}
use Rattle.lil_language.specs.Grammar as g
use Rattle.lil_language.specs.Grammar.{Part, expression, operand, form, sort, record_case, procedure, grammar, first, goes}

expression_sound : sound_at grammar expression ≡ true
unfolding grammar same_mark same_word g.a_field g.a_part g.actuals g.addition g.additions g.arguments g.behind_field g.behind_name g.bit_set g.call g.chars g.code g.comparison g.element g.elements g.exprs g.factor g.field g.field_path g.field_set g.follow g.index g.inner g.labels g.literal g.multiplication g.multiplications g.name_call g.name_set g.named g.negated g.number g.part_selector g.part_selectors g.relation g.selector g.selectors g.signed g.some_labels g.sum g.term
expression_sound = refl

operand_sound : sound_at grammar operand ≡ true
unfolding grammar same_mark same_word g.a_field g.a_part g.actuals g.arguments g.behind_field g.behind_name g.bit_set g.call g.chars g.code g.element g.elements g.exprs g.factor g.field g.field_path g.field_set g.follow g.index g.inner g.labels g.literal g.name_call g.name_set g.named g.negated g.number g.part_selector g.part_selectors g.selector g.selectors g.some_labels
operand_sound = refl

form_sound : sound_at grammar form ≡ true
unfolding grammar same_mark same_word g.a_designator g.a_for_head g.a_form g.actuals g.an_arm g.arguments g.arms g.case_form g.choice_form g.element g.exit_form g.exprs g.field g.follow g.for_form g.guarded g.guards g.if_form g.index g.labels g.loop_form g.loops_form g.named_form g.otherwise g.part_selector g.repeat_form g.return_form g.selector g.selectors g.some_arm g.statement g.statements g.step g.while_form g.with_form g.word_form
form_sound = refl

sort_sound : sound_at grammar sort ≡ true
unfolding grammar same_mark same_word g.a_fieldlist g.a_qualident g.a_sort g.array g.bounds g.by_place g.enumeration g.field_row g.field_statement g.fields g.formal g.formal_part g.formals g.named_type g.names g.open_array g.pointer g.procedure_type g.record_type g.result g.scalar g.set g.simple g.simples g.some_formals g.structured g.unnamed
sort_sound = refl

record_case_sound : sound_at grammar record_case ≡ true
unfolding grammar same_mark same_word g.a_fieldlist g.a_qualident g.a_variant g.element g.field_row g.field_statement g.field_variants g.fields g.labels g.named_tag g.names g.other_fields g.some_variant g.tag g.unnamed_tag g.variants
record_case_sound = refl

procedure_sound : sound_at grammar procedure ≡ true
unfolding grammar same_mark same_word g.a_procedure g.a_qualident g.a_section g.a_type g.block g.body g.by_place g.constant g.constant_part g.constants g.decl g.decls g.heading g.names g.open_array g.procedure_part g.result g.section_part g.sections g.some_sections g.statement g.statements g.type_part g.types g.variable g.variable_list g.variable_part
procedure_sound = refl

pub sound : (n : Part) → sound_at grammar n ≡ true
sound expression = expression_sound
sound operand = operand_sound
sound form = form_sound
sound sort = sort_sound
sound record_case = record_case_sound
sound procedure = procedure_sound

pub expr_decided : decided first goes g.expr ≡ true
expr_decided = refl

pub statements_decided : decided first goes g.statements ≡ true
unfolding same_mark same_word g.statement g.statements
statements_decided = refl

pub text_decided : (n : ℕ) → decided first goes (g.text n) ≡ true
unfolding same_mark same_word g.a_qualident g.a_section g.a_type g.an_import g.block g.body g.by_place g.constant g.constant_part g.constants g.decl g.decls g.definition g.definition_decl g.definition_decls g.definition_head g.definition_heading g.definition_type g.definition_type_part g.definition_types g.export g.exports g.heading g.implementation_head g.import_all g.import_from g.imports g.module_head g.names g.open_array g.other_unit g.procedure_part g.program_head g.result g.section_part g.sections g.some_sections g.statement g.statements g.text g.type_form g.type_part g.types g.unit g.variable g.variable_list g.variable_part
text_decided n = refl
