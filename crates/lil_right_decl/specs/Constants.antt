-- Constants in whose declarations no test finds a fault are told.
use Rattle.std.proofs.Common.{◌≡◌, ℕ, true, List, [], ◌∷◌, ◌++◌, Option, Some, None, sym, subst, ◌∙◌, arith, true≢false}
use Rattle.lil_text.specs.declared.tree.Ident.{Ident}
use Rattle.lil_language.specs.declared.unit.Constant.{Constant}
use Rattle.lil_report.specs.Told.{after}
use Rattle.lil_scope.specs.{Names.{bind, bind_at, entry}, declared.{env.Env.Env, thing.{Kind.Kind, Thing.Thing}}}
use Rattle.lil_scope.specs.declared.thing.Kind.TheVariants as k
use Rattle.lil_kinds.specs.{Kinds.is_constant, declared.found.{Form.Form, Found.Found}}
use Rattle.lil_kinds.specs.declared.found.Form.TheVariants as form
use Rattle.lil_check_value.specs.Values.{asked_means}
use Rattle.lil_check_decl.specs.Constants.{Meant, with_text, if_constant, constant_node, constant_step}
use Rattle.lil_shapes.specs.ShapeSound.{earlier}
use Rattle.lil_forms.specs.{Properties.nothing, Variables.seen}
use Rattle.lil_right_type.specs.{Right.{Right, IsThere, after_right, is_so}, Found.{reach, KindTold, GoesWith, IsKnown}}
use Rattle.lil_right_value.specs.Values.{asked_right}
use Rattle.lil_right_sort.specs.{Growth.{Few, Grown, last_there, IsThing, Declared, bound_declared, texts_declared}, Simple.{Later, Follows}}

-- what is declared behind e, where no test finds a fault
abbrev pub Behind : Env → Env → Type 0
Behind e f = Later e f × (Few f.types → Declared f)

-- and a thing that may be bound there, in the block at hand
abbrev pub IsMeant : Env → Env → Thing → Type 0
IsMeant e f x = Follows e f (IsThing f f.scopes.inner x)

pub bind_behind : (e f : Env) (i : Ident) (x : Thing) → IsMeant e f x → Right (Behind e) (bind f i x)
unfolding bind_at
bind_behind e f i x h clear = (h.0, λ few. let j = h.1 few in bound_declared f j.0 f.scopes.inner i.name (entry x i.place) j.1)

abbrev ConstantMeant : Env → Meant → Type 0
ConstantMeant e m = IsMeant e m.0 m.1

module _ (e : Env) (h : Declared e) where
  text_declared : (cs : List ℕ) → Declared (with_text e cs)
  text_declared cs = texts_declared e h (e.texts ++ cs ∷ []) (λ i ds is. earlier e.texts (cs ∷ []) i ds is)

  kind_meant : (d : ℕ) (kind : Kind) (f : Form) → is_constant kind ≡ true → KindTold e.types kind → GoesWith (nothing e.types (seen e) e.withs (reach e)) d kind f → let m = if_constant e f kind in Declared m.0 × IsThing m.0 m.0.scopes.inner m.1
  unfolding is_constant
  kind_meant d (k.Whole z) f is told goes = (h, ((told, tt), (tt, tt)))
  kind_meant d (k.Scalar s w) f is told goes = (h, ((told, tt), (tt, tt)))
  kind_meant d (k.Chars c) (form.Text cs) is told goes = (text_declared cs, ((told, (cs, last_there e.texts cs, goes)), (tt, tt)))
  kind_meant d (k.Chars c) _ is told goes = absurd goes
  kind_meant d k.Nil f is told goes = absurd (true≢false (sym is))
  kind_meant d (k.Of s) f is told goes = absurd (true≢false (sym is))
  kind_meant d (k.Open s) f is told goes = absurd (true≢false (sym is))
  kind_meant d (k.Routine s) f is told goes = absurd (true≢false (sym is))

module _ (e : Env) (f : Form) (kind : Kind) where
  same_types : (if_constant e f kind).0.types ≡ e.types
  unfolding is_constant
  same_types = grind arith

  same_procedures : (if_constant e f kind).0.procedures ≡ e.procedures
  unfolding is_constant
  same_procedures = grind arith

  same_procedure : (if_constant e f kind).0.procedure ≡ e.procedure
  unfolding is_constant
  same_procedure = grind arith

node_meant : (e f : Env) → Behind e f → (o : Option Found) → (Few f.types → IsThere (IsKnown f) o) → Right (ConstantMeant e) (constant_node f o)
unfolding constant_node
node_meant e f b None there clear = (b.0, λ few. absurd (there few))
node_meant e f b (Some a) there clear =
    let same = same_types f a.form a.kind in (
      (subst (Grown e.types) (sym same) b.0.0, (same_procedures f a.form a.kind ∙ b.0.1.0, same_procedure f a.form a.kind ∙ b.0.1.1)),
      λ few.
          let before : Few f.types = subst Few same few in
          let a_told = there before in
          kind_meant f (b.1 before) a.depth a.kind a.form (is_so (is_constant a.kind) clear.0) a_told.kind a_told.form,
    )

pub constant_behind : (e f : Env) (c : Constant) → Behind e f → Right (Behind e) (constant_step f c)
constant_behind e f c b = after_right (λ o. Few f.types → IsThere (IsKnown f) o) (Behind e) (asked_means f c.value) (λ o. after (constant_node f o) (λ m. bind m.0 c.name m.1))
    (λ clear few. asked_right f (nothing f.types (seen f) f.withs (reach f)) (b.1 few).told c.value clear)
    (λ o there. after_right (ConstantMeant e) (Behind e) (constant_node f o) (λ m. bind m.0 c.name m.1) (node_meant e f b o there) (λ m meant. bind_behind e m.0 c.name m.1 meant))
