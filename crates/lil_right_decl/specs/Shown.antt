-- Interfaces of resident modules: their types are the next ones of each unit, and each name of theirs is told by them.
use Rattle.std.proofs.Common.{◌≡◌, ℕ, ◌+◌, ◌<◌, ◌≤◌, true, List, [], ◌∷◌, ◌++◌, length, drop, slice_get, Option, Some, None, refl, ap, ◌∙◌, arith, ◌⊎◌, inl, inr}
use Rattle.std.specs.Prelude.{min}
use Rattle.lil_types.specs.{Types.{Table, char, address, process, entry, known, facts_of, plain, sum_of, record_facts}, Adding.{next, fitting}, declared.table.{Facts.Facts, Parameter.Parameter, TypeEntry.TypeEntry, TypeForm.{TypeForm, TheVariants.{Enumeration, Procedure}}}}
use Rattle.lil_scope.specs.declared.thing.Kind.{Kind}
use Rattle.lil_scope.specs.declared.thing.Kind.TheVariants as k
use Rattle.lil_scope.specs.declared.thing.Thing.{Thing}
use Rattle.lil_scope.specs.declared.thing.Thing.TheVariants as t
use Rattle.lil_shapes.specs.{ListLaws.AllFine, Pointers.lies_at}
use Rattle.lil_interfaces.specs.{declared.surface.{Interface.Interface, Exported.Exported}, Interfaces.{first_own, responses, statuses, shown, with_shown, with_declared, with_procedure, terminal, in_out, file_system, storage, program, channels, system, residents}, Moving.{moved, moved_form}}
use Rattle.lil_right_type.specs.{Found.signature, Types.{PassedTold, entry_known}}
use Rattle.lil_right_sort.specs.Growth.{PartsTold}
use Rattle.lil_right_decl.specs.Origins.{AreOwn}

-- ---- types
-- a type of an interface has this number there: it is the same in a unit where these numbers have those, with as many words, and something lies in it
pub record IsOne (u : Table) (ns : List ℕ) (n : ℕ) (e : TypeEntry) : Type 0 where
  pub its : TypeEntry
  pub there : entry u (moved ns n) ≡ Some its
  pub form : its.form ≡ moved_form ns e.form
  pub words : its.facts.words ≡ e.facts.words
  pub lies : lies_at u (moved ns n) ≡ true

abbrev pub AreThere : Table → List ℕ → ℕ → Table → Type 0
AreThere u ns n [] = Unit {0}
AreThere u ns n (e ∷ es) = IsOne u ns n e × AreThere u ns (n + 1) es

-- a form is told as that of a table's next type, with so many words
pub record IsNext (u : Table) (form : TypeForm) (many : ℕ) : Type 0 where
  pub parts : PartsTold u form
  pub facts : Facts
  pub is : facts_of u (next u) form ≡ Some facts
  pub fits : fitting (Some facts) ≡ Some facts
  pub words : facts.words ≡ many

-- each type of an interface is told, behind those before it
abbrev pub AreFit : Table → Table → Type 0
AreFit before [] = Unit {0}
AreFit before (e ∷ es) = ((u : Table) (ns : List ℕ) → AreThere u ns 16 before → IsNext u (moved_form ns e.form) e.facts.words) × AreFit (before ++ e ∷ []) es

-- ---- names
-- a constant of an enumeration
pub record IsConstant (types : Table) (kind : Kind) : Type 0 where
  pub at : ℕ
  pub word : ℕ
  pub names : List (List ℕ)
  pub its : TypeEntry
  pub is : kind ≡ k.Scalar (at + 16) word
  pub there : slice_get types at ≡ Some its
  pub form : its.form ≡ Enumeration names
  pub within : word < length names

abbrev pub IsSignedBy : Option (List Parameter) → TypeForm → Type 0
IsSignedBy None form = Unit {0}
IsSignedBy (Some ps) form = form ≡ Procedure ps None

-- EOL and constants of enumerations, ADDRESS, PROCESS and types of the interface, and procedures with their headings
abbrev pub IsResident : Table → Thing → Type 0
IsResident types (t.Constant kind) = (kind ≡ k.Scalar char 30) ⊎ IsConstant types kind
IsResident types (t.Type n) = ((n ≡ address) ⊎ (n ≡ process)) ⊎ ((i : ℕ) × (n ≡ i + 16) × ((e : TypeEntry) × (slice_get types i ≡ Some e)))
IsResident types (t.Resident r n) = (i : ℕ) × (n ≡ i + 16) × ((e : TypeEntry) × (slice_get types i ≡ Some e) × IsSignedBy (signature r) e.form)
IsResident types _ = ⊥

abbrev pub IsShown : Table → Exported → Type 0
IsShown types x = (x.shown ≡ true) × IsResident types x.what

-- it rests on no other module, and its types are its own
pub record Shown (i : Interface) : Type 0 where
  pub rests : i.rests ≡ []
  pub texts : i.texts ≡ []
  pub own : AreOwn 16 i.types
  pub types : AreFit [] i.types
  pub names : AllFine (IsShown i.types) i.names

-- ---- those of the resident modules
heading : (u : Table) (ps : List Parameter) → AllFine (PassedTold u) ps → IsNext u (Procedure ps None) 1
heading u ps passed = record { parts = (passed, tt); facts = plain (next u); is = refl; fits = refl; words = refl }

terminal_shown : (n : List ℕ) → Shown (terminal n)
unfolding with_procedure
terminal_shown n = record {
  rests = refl;
  texts = refl;
  own = (refl, (refl, (refl, (refl, tt))));
  types = (λ u ns before. heading u _ (inl refl, tt), (λ u ns before. heading u _ (inl refl, tt), (λ u ns before. heading u _ (inl refl, tt), (λ u ns before. heading u _ tt, tt))));
  names = ((refl, (0, refl, (_, refl, refl))), ((refl, (1, refl, (_, refl, refl))), ((refl, (2, refl, (_, refl, refl))), ((refl, (3, refl, (_, refl, refl))), tt))));
}

in_out_shown : (n : List ℕ) → Shown (in_out n)
unfolding with_shown with_procedure
in_out_shown n = record {
  rests = refl;
  texts = refl;
  own = (refl, (refl, (refl, (refl, (refl, (refl, (refl, (refl, tt))))))));
  types = (
    λ u ns before. heading u _ (inl refl, tt),
    (
      λ u ns before. heading u _ (inl refl, tt),
      (
        λ u ns before. heading u _ (inl refl, tt),
        (
          λ u ns before. heading u _ tt,
          (
            λ u ns before. heading u _ (inl refl, (inl refl, tt)),
            (λ u ns before. heading u _ (inl refl, (inl refl, tt)), (λ u ns before. heading u _ (inl refl, (inl refl, tt)), (λ u ns before. heading u _ (inl refl, (inl refl, tt)), tt))),
          ),
        ),
      ),
    ),
  );
  names = ((refl, (0, refl, (_, refl, refl))), ((refl, (1, refl, (_, refl, refl))), ((refl, (2, refl, (_, refl, refl))), ((refl, (3, refl, (_, refl, refl))), ((refl, inl refl), ((refl, (4, refl, (_, refl, refl))), ((refl, (5, refl, (_, refl, refl))), ((refl, (6, refl, (_, refl, refl))), ((refl, (7, refl, (_, refl, refl))), tt)))))))));
}

storage_shown : (n : List ℕ) → Shown (storage n)
unfolding with_procedure
storage_shown n = record {
  rests = refl;
  texts = refl;
  own = (refl, (refl, tt));
  types = (λ u ns before. heading u _ (inl refl, (inl refl, tt)), (λ u ns before. heading u _ (inl refl, (inl refl, tt)), tt));
  names = ((refl, (0, refl, (_, refl, refl))), ((refl, (1, refl, (_, refl, refl))), tt));
}

system_shown : (n : List ℕ) → Shown (system n)
unfolding with_shown with_procedure
system_shown n = record {
  rests = refl;
  texts = refl;
  own = (refl, (refl, tt));
  types = (λ u ns before. heading u _ (inl refl, (inl refl, (inl refl, (inr refl, tt)))), (λ u ns before. heading u _ (inr refl, (inr refl, tt)), tt));
  names = ((refl, inl (inl refl)), ((refl, inl (inr refl)), ((refl, (0, refl, (_, refl, refl))), ((refl, (1, refl, (_, refl, refl))), tt))));
}

channels_shown : (n : List ℕ) → Shown (channels n)
unfolding with_procedure
channels_shown n = record {
  rests = refl;
  texts = refl;
  own = (refl, (refl, (refl, (refl, tt))));
  types = (
    λ u ns before. heading u _ (inl refl, (inl refl, tt)),
    (λ u ns before. heading u _ (inl refl, (inl refl, (inl refl, tt))), (λ u ns before. heading u _ (inl refl, (inl refl, (inl refl, tt))), (λ u ns before. heading u _ (inl refl, (inl refl, tt)), tt))),
  );
  names = ((refl, (0, refl, (_, refl, tt))), ((refl, (1, refl, (_, refl, tt))), ((refl, (2, refl, (_, refl, tt))), ((refl, (3, refl, (_, refl, tt))), tt))));
}

-- the constants of the first type, from one on, and names behind them
abbrev constants_from : ℕ → List (List ℕ) → List Exported → List Exported
constants_from j [] xs = xs
constants_from j (n ∷ ns) xs = shown n (t.Constant (k.Scalar first_own (min j 65535))) ∷ constants_from (j + 1) ns xs

module _ (types : Table) (e : TypeEntry) (names : List (List ℕ)) (there : slice_get types 0 ≡ Some e) (form : e.form ≡ Enumeration names) where
  constants_shown : (j : ℕ) (ns : List (List ℕ)) (xs : List Exported) → j + length ns ≤ length names → AllFine (IsShown types) xs → AllFine (IsShown types) (constants_from j ns xs)
  constants_shown j [] xs within all = all
  constants_shown j (n ∷ ns) xs within all =
      ((refl, inr (record { at = 0; word = min j 65535; names = names; its = e; is = refl; there = there; form = form; within = omega arith })), constants_shown (j + 1) ns xs (omega arith) all)

-- a field of the first type, which has a word, behind two of a word
file_words : (u : Table) (n : ℕ) (f : Facts) → known u n ≡ Some f → f.words ≡ 1 → record_facts (next u) (sum_of (known u 1) (sum_of (known u 2) (sum_of (known u n) (Some 0)))) ≡ Some (record { base = next u; words = 3; span = None })
file_words u n f is word =
    ap (λ (o : Option Facts). record_facts (next u) (sum_of (known u 1) (sum_of (known u 2) (sum_of o (Some 0))))) is
    ∙ ap (λ (w : ℕ). record_facts (next u) (sum_of (known u 1) (sum_of (known u 2) (Some (w + 0))))) word

file_system_shown : (n : List ℕ) → Shown (file_system n)
unfolding with_shown with_declared with_procedure
file_system_shown n = record {
  rests = refl;
  texts = refl;
  own = (refl, (refl, (refl, (refl, (refl, (refl, (refl, tt)))))));
  types = (
    λ u ns before. record { parts = omega arith; facts = _; is = refl; fits = refl; words = refl },
    (
      λ u ns before. record { parts = (refl, (refl, (before.0.lies, tt))); facts = _; is = file_words u (moved ns 16) before.0.its.facts (entry_known u _ before.0.its before.0.there) before.0.words; fits = refl; words = refl },
      (
        λ u ns before. heading u _ (inl before.1.0.lies, (inl refl, (inl refl, tt))),
        (λ u ns before. heading u _ (inl before.1.0.lies, tt), (λ u ns before. heading u _ (inl before.1.0.lies, tt), (λ u ns before. heading u _ (inl before.1.0.lies, (inl refl, tt)), (λ u ns before. heading u _ (inl before.1.0.lies, (inl refl, tt)), tt)))),
      ),
    ),
  );
  names = (
    (refl, inr (0, refl, (_, refl))),
    constants_shown _ _ responses refl refl 0 responses (drop 3 (file_system n).names) (omega arith)
        ((refl, inr (1, refl, (_, refl))), ((refl, (2, refl, (_, refl, tt))), ((refl, (3, refl, (_, refl, tt))), ((refl, (4, refl, (_, refl, tt))), ((refl, (5, refl, (_, refl, tt))), ((refl, (6, refl, (_, refl, tt))), tt)))))),
  );
}

program_shown : (n : List ℕ) → Shown (program n)
unfolding with_shown with_declared with_procedure
program_shown n = record {
  rests = refl;
  texts = refl;
  own = (refl, (refl, tt));
  types = (λ u ns before. record { parts = omega arith; facts = _; is = refl; fits = refl; words = refl }, (λ u ns before. heading u _ (inl refl, (inl before.0.lies, tt)), tt));
  names = ((refl, inr (0, refl, (_, refl))), constants_shown _ _ statuses refl refl 0 statuses (drop 18 (program n).names) (omega arith) ((refl, (1, refl, (_, refl, tt))), tt));
}

pub all_shown : AllFine Shown residents
all_shown = (terminal_shown _, (in_out_shown _, (file_system_shown _, (storage_shown _, (program_shown _, (channels_shown _, (system_shown _, tt)))))))
