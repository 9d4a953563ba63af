-- What each form of declaration means, from what its parts mean.
use Rattle.std.proofs.Common.{◌≡◌, ℕ, Bool, refl, List, [], length, map, Option, Some, None, sym, ap, subst, ◌∙◌}
use Rattle.std.specs.Prelude.{slice_get}
use Rattle.lil_base.specs.declared.fault.{FaultKind.TheVariants.NotBuilt, Place.Place}
use Rattle.lil_language.specs.declared.unit.{Section.Section, Constant.Constant, TypeName.TypeName, Variables.Variables, Heading.Heading, Decl.{Decl, TheOpen.Decl-F, TheFolds.{map-Decl, fold-Block, fold-roll-Decl, fold_out-Block}, TheViews.roll-Decl}, Block.{Block, out-Block}}
use Rattle.lil_language.specs.declared.unit.Decl.TheVariants as d
use Rattle.lil_language.specs.declared.unit.Decl.TheOpen as o
use Rattle.lil_report.specs.{declared.report.Fault.Fault, Told.{Row, row, noted, after, walk, Said}, Laws.{said_as, said_to, said_after, said_map, walk_map}}
use Rattle.lil_declared.specs.declared.declared.RProc.{RProc}
use Rattle.lil_scope.specs.{declared.{entering.Around.Around, env.{Env.Env, Wait.Wait}}, Names.{inside, entered, outside, around, back, begun}}
use Rattle.lil_check_value.specs.Looks.{said_not_built}
use Rattle.lil_check_type.specs.{Walks.walk_steps, Made.Made, Records.no_parameters}
use Rattle.lil_check_decl.specs.{declared.home.Home.Home, Constants.constant_step, Headings.{Headed, section_step, home_at, named_means, heading_type, heading_means}, Decls.{Means, Sense, with_no_types, expecting, decl_step, type_step, variables_step, block_end, procedure_means, alone_means, decl_layer, block_layer, decl_sense, decls_inside}}

block_means : Block → Means
block_means = fold-Block Sense Means decl_layer block_layer

rolled : (x : Decl-F Decl Block) → decl_sense (roll-Decl x) ≡ decl_layer (map-Decl Decl Block Sense Means decl_sense block_means x)
unfolding decl_sense block_means
rolled = fold-roll-Decl Sense Means decl_layer block_layer

block_is : (b : Block) (e : Env) → block_means b e ≡ decls_inside (length e.waits) e (out-Block b).decls
unfolding decl_sense block_means decls_inside
block_is b e = ap (λ m. m e) (fold_out-Block Sense Means decl_layer block_layer b)
    ∙ (λ j. after (walk_map (λ (e : Env) (s : Sense). s.means e) decl_sense (expecting e (map decl_sense (out-Block b).decls)) (out-Block b).decls j) (block_end (length e.waits)))

pub constants_are : (p : Place) (xs : List Constant) → decl_sense (d.ConstIs p xs) ≡ with_no_types (λ e. walk constant_step e xs)
constants_are p xs = ap decl_sense (sym (d.rolls-ConstIs p xs)) ∙ rolled (o.ConstIs p xs)

pub types_are : (p : Place) (xs : List TypeName) → decl_sense (d.TypeIs p xs) ≡ record { types = xs; means = λ e. walk type_step e xs }
types_are p xs = ap decl_sense (sym (d.rolls-TypeIs p xs)) ∙ rolled (o.TypeIs p xs)

pub variables_are : (p : Place) (xs : List Variables) → decl_sense (d.VarsAre p xs) ≡ with_no_types (λ e. walk variables_step e xs)
variables_are p xs = ap decl_sense (sym (d.rolls-VarsAre p xs)) ∙ rolled (o.VarsAre p xs)

pub heading_is : (h : Heading) → decl_sense (d.ProcIs h None) ≡ with_no_types (λ e. alone_means e h)
heading_is h = ap decl_sense (sym (d.rolls-ProcIs h None)) ∙ rolled (o.ProcIs h None)

pub procedure_is : (h : Heading) (b : Block) → decl_sense (d.ProcIs h (Some b)) ≡ with_no_types (λ e. procedure_means e h (λ f. decls_inside (length f.waits) f (out-Block b).decls))
procedure_is h b = ap decl_sense (sym (d.rolls-ProcIs h (Some b))) ∙ rolled (o.ProcIs h (Some b)) ∙ (λ j. with_no_types (λ e. procedure_means e h (λ f. block_is b f j)))

pub ruleset decl_steps = (walk_steps, constants_are, types_are, variables_are, heading_is, procedure_is)

-- a procedure declares no type in the block around it
pub no_types_of : (h : Heading) (body : Option Block) → (decl_sense (d.ProcIs h body)).types ≡ []
no_types_of h None = ap (λ s. s.types) (heading_is h)
no_types_of h (Some b) = ap (λ s. s.types) (procedure_is h b)

-- the pointers that wait are the same in a procedure
still_waiting : (n : ℕ) (e : Env) → (entered n e).waits ≡ e.waits
still_waiting n e = by (slice_get e.procedures n)
  where
    by : (o : Option RProc) → (inside n o e).waits ≡ e.waits
    by None = refl
    by (Some q) = refl

-- ---- what is said of a form, from what is said of its parts
module _ (e : Env) {r : Option Fault} where
  pub is_procedure : {of : Decl} (h : Heading) (b : Block) (ds : List Decl) {body : Option Block} {n u : ℕ} {a : Around} {f g v w : Env} {s t : Option Fault} → of ≡ d.ProcIs h body → body ≡ Some b → ds ≡ (out-Block b).decls
      → n ≡ length e.procedures → Said (heading_means e h) r f t → u ≡ length f.waits → a ≡ around f → g ≡ entered n f → Said (decls_inside u g ds) t v s → w ≡ back a v → Said (decl_step e of) r w s
  is_procedure h b ds {n = n} {u = u} {f = f} {g = g} {v = v} {s = s} {t = t} is some these number l waiting stands enters m leaves =
      let now : u ≡ length (entered (length e.procedures) f).waits = waiting ∙ ap (λ (ws : List Wait). length ws) (sym (still_waiting (length e.procedures) f)) in
      said_as (ap (decl_step e) (is ∙ ap (d.ProcIs h) some) ∙ ap (λ s. s.means e) (procedure_is h b))
      (said_after _ _ l (said_to (said_map (outside f)
      (subst (λ (z : Env × List Row). Said z t v s) (λ j. decls_inside (now j) ((enters ∙ ap (λ (n : ℕ). entered n f) number) j) (these j)) m))
      (leaves ∙ ap (λ a. back a v) stands)))

  pub is_heading : (h : Heading) (k : ℕ) (ss : List Section) {b : Env} {home : Home} {q : Headed} {m : Made} {f : Env} {s t u : Option Fault} → k ≡ length e.scopes.blocks → b ≡ begun e → home ≡ home_at b k → ss ≡ h.sections
      → Said {A = Headed} (walk (section_step home) (b, no_parameters) ss) r q t → Said (heading_type q h) t m u → Said (named_means k h.name m) u f s → Said (heading_means e h) r f s
  is_heading h k ss {b = b} {home = home} {q = q} {m = m} {f = f} {s = s} {t = t} {u = u} num new is these l n p = said_after _ _
      (subst (λ k. Said {A = Headed} (walk (section_step (home_at e k)) (begun e, no_parameters) h.sections) r q t) num
      (subst (λ b. Said {A = Headed} (walk (section_step (home_at b k)) (b, no_parameters) h.sections) r q t) new
      (subst (λ home. Said {A = Headed} (walk (section_step home) (b, no_parameters) h.sections) r q t) is
      (subst (λ ss. Said {A = Headed} (walk (section_step home) (b, no_parameters) ss) r q t) these l))))
      (said_after _ _ n (subst (λ k. Said (named_means k h.name m) u f s) num p))
