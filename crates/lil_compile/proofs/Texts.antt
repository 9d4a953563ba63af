-- A text has one answer where the files are told.
use Rattle.std.proofs.Common.{◌≡◌, ◌⊎◌, inl, inr, ℕ, ◌<◌, ◌≤◌, false, List, length, Option, Some, Result, Ok, Err, refl, sym, ◌∙◌, ap, subst, arith}
use Rattle.std.specs.{FinMap.get, Prelude.IsErrAnd}
use Rattle.lil_base.specs.{Names.{book_file, file_of}, declared.{fault.{Key.Key, SourceFault.SourceFault}, name.FileKind.TheVariants.{Symbols as SymbolsFile}}}
use Rattle.lil_text.specs.{declared.token.Token.Token, Lexical.{HasTokens, whole, longest_text}}
use Rattle.lil_text.specs.declared.stop.ReadStop.{ReadStop}
use Rattle.lil_text.specs.declared.stop.ReadStop.TheVariants as stop
use Rattle.lil_language.specs.{declared.unit.Unit.Unit as Tree, Units.{Reads, HasReadFault}}
use Rattle.lil_volume.specs.Told.{Files}
use Rattle.lil_imports.specs.Ran.{Found}
use Rattle.lil_compile.specs.{declared.stop.CompileStop.CompileStop, Compiled.{Compiled, IsCompiled, HasUnitFault, HasDefinitionFault}, Command.gives_way, Layers.{stopped_by, IsOverFound, IsUnitMade, IsUnitWrong, Ran, TextRan}}
use Rattle.lil_compile.specs.declared.stop.CompileStop.TheVariants as why
use Rattle.lil_compile.proofs.{Unique.{one_unit_fault, unit_apart, one_unit}, Parts.{err_is, found_as, some_found, ran_memory, ran_wrong, ran_weaker}}

-- a text without a fault isn't long
tokens_short : (text : List ℕ) (ts : List Token) → HasTokens text ts → length text ≤ longest_text
tokens_short text ts (whole le cuts) = le

pub text_short : (text : List ℕ) (u : Tree) → Reads text u → length text < 4294967296
text_short text u h = let short : length text ≤ 262144 = tokens_short text h.0 h.1 in omega (arith, short)

module _ (x text : List ℕ) (apart : (u : Tree) (f : SourceFault) → Reads text u → HasReadFault text f → ⊥) where
  unit_of : (P : List ℕ → Option (List ℕ) → Type 0) (found : Option (List ℕ)) (c : Compiled) → IsCompiled P x text found c → (u : Tree) × Reads text u × IsOverFound P x text u found c
  unit_of P found c h = (h.unit, h.read, (h.entries, h.there, (h.gathered, h.imported, record { named = h.named; symbols = h.symbols; interface = h.interface; room = h.room; is = h.is })))

  abbrev answer : SourceFault → Result Key CompileStop
  answer f = Err (why.Source f)

  -- ---- reading stopped
  module _ (before : Option Files) (faults : ℕ) where
    read_wrong : (f : SourceFault) → HasReadFault text f → ((g : SourceFault) → HasReadFault text g → g ≡ f) → TextRan x text before faults before faults (Err (why.Source f))
    read_wrong f has exact = record {
      ran = ran_wrong _ _ before faults before faults f (let found = some_found before book_file in (found.0, found.1, inl has)) refl refl;
      done_where = λ m c told is stays. absurd (apart is.unit f is.read has);
      fault_where = λ m g told is stays. by m g is;
    }
      where
        by : (m : Files) (g : SourceFault) → HasDefinitionFault (Found before) x text (get m book_file) g → answer f ≡ answer g
        by m g (inl h) = ap (λ (s : SourceFault). Err (why.Source s)) (sym (exact g h))
        by m g (inr h) = absurd (apart h.0 f h.1 has)

    read_memory : TextRan x text before faults before faults (Err why.Memory)
    read_memory = record {
      ran = ran_memory _ _ before faults before faults (inl refl) (omega arith);
      done_where = λ m c told is stays. absurd cc;
      fault_where = λ m g told is stays. absurd cc;
    }

    same_stop : (f g : SourceFault) → (stop.Fault f ≡ stop.Fault g) ⊎ (stop.Fault f ≡ stop.Memory) → g ≡ f
    same_stop f g (inl e) = cc
    same_stop f g (inr e) = absurd cc

    text_stopped : (s : ReadStop) → ((f : SourceFault) → s ≡ stop.Fault f → HasReadFault text f) → ((g : SourceFault) → HasReadFault text g → (s ≡ stop.Fault g) ⊎ (s ≡ stop.Memory))
        → TextRan x text before faults before faults (Err (stopped_by s))
    text_stopped (stop.Fault f) has exact = read_wrong f (has f refl) (λ g h. same_stop f g (exact g h))
    text_stopped stop.Memory has exact = read_memory

    -- what a `?` answered
    pub read_stopped : (r : Result Key CompileStop) (s : ReadStop) → IsErrAnd r (λ e. e ≡ stopped_by s) → ((f : SourceFault) → s ≡ stop.Fault f → HasReadFault text f)
        → ((g : SourceFault) → HasReadFault text g → (s ≡ stop.Fault g) ⊎ (s ≡ stop.Memory)) → TextRan x text before faults before faults r
    read_stopped r s is has exact = subst (λ (t : Result Key CompileStop). TextRan x text before faults before faults t) (err_is r (stopped_by s) is) (text_stopped s has exact)

  -- ---- the text is a unit
  module _ (one : (u v : Tree) → Reads text u → Reads text v → u ≡ v) (u : Tree) (reads : Reads text u) where
    module _ (P : List ℕ → Option (List ℕ) → Type 0) where
      over_this : (found : Option (List ℕ)) (c : Compiled) → IsCompiled P x text found c → IsOverFound P x text u found c
      over_this found c h = let v = unit_of P found c h in subst (λ (t : Tree). IsOverFound P x text t found c) (one v.0 u v.1 reads) v.2

      of_this : (found : Option (List ℕ)) (c : Compiled) → IsOverFound P x text u found c → IsCompiled P x text found c
      of_this found c (b, there, (g, imported, h)) = record { unit = u; read = reads; named = h.named; entries = b; there = there; gathered = g; imported = imported; symbols = h.symbols; interface = h.interface; room = h.room; is = h.is }

      wrong_this : (found : Option (List ℕ)) (f : SourceFault) → HasDefinitionFault P x text found f → HasUnitFault P x u found f
      wrong_this found f (inl h) = absurd (apart u f reads h)
      wrong_this found f (inr h) = subst (λ (t : Tree). HasUnitFault P x t found f) (one h.0 u h.1 reads) h.2

    module _ (before : Option Files) (before_faults : ℕ) (after : Option Files) (after_faults : ℕ) where
      abbrev UnitRan : Result Key CompileStop → Type 0
      UnitRan r = Ran (IsUnitMade x text u before) (IsUnitWrong x u before) before before_faults after after_faults r

      module _ (m : Files) (told : before ≡ Some m) where
        -- one thing, or nothing, is found under a name
        once : (n : List ℕ) (o p : Option (List ℕ)) → Found before n o → Found before n p → o ≡ p
        once n o p h k = found_as before m (file_of n SymbolsFile) o told h ∙ sym (found_as before m (file_of n SymbolsFile) p told k)

        right_here : (c : Compiled) → IsUnitMade x text u before c → IsOverFound (Found before) x text u (get m book_file) c
        right_here c h = subst (λ (o : Option (List ℕ)). IsOverFound (Found before) x text u o c) (found_as before m book_file h.0 told h.1) h.2

        wrong_here : (f : SourceFault) → IsUnitWrong x u before f → HasUnitFault (Found before) x u (get m book_file) f
        wrong_here f h = subst (λ (o : Option (List ℕ)). HasUnitFault (Found before) x u o f) (found_as before m book_file h.0 told h.1) h.2

        done_by : (c : Compiled) → IsOverFound (Found before) x text u (get m book_file) c → (r : Result Key CompileStop) → UnitRan r → gives_way r ≡ false → r ≡ Ok (record { 0 = c.key })
        done_by c is (Ok key) ran stays =
            let d = ran.done key refl in
            ap (λ (n : ℕ). Ok (record { 0 = n })) (d.2 ∙ ap (λ (e : Compiled). e.key) (one_unit (Found before) once x u (get m book_file) text d.0 c (right_here d.0 d.1) is))
        done_by c is (Err why.NoFile) ran stays = absurd (ran.there refl)
        done_by c is (Err (why.Source f)) ran stays = absurd (unit_apart (Found before) once x u (get m book_file) text c f is (wrong_here f (ran.fault f refl).0))
        done_by c is (Err why.Volume) ran stays = absurd cc
        done_by c is (Err why.Memory) ran stays = absurd cc

        fault_by : (f : SourceFault) → HasUnitFault (Found before) x u (get m book_file) f → (r : Result Key CompileStop) → UnitRan r → gives_way r ≡ false → r ≡ Err (why.Source f)
        fault_by f is (Ok key) ran stays = let d = ran.done key refl in absurd (unit_apart (Found before) once x u (get m book_file) text d.0 f (right_here d.0 d.1) is)
        fault_by f is (Err why.NoFile) ran stays = absurd (ran.there refl)
        fault_by f is (Err (why.Source g)) ran stays = ap (λ (s : SourceFault). Err (why.Source s)) (one_unit_fault (Found before) once x u (get m book_file) g f (wrong_here g (ran.fault g refl).0) is)
        fault_by f is (Err why.Volume) ran stays = absurd cc
        fault_by f is (Err why.Memory) ran stays = absurd cc

      pub text_ran : (r : Result Key CompileStop) → UnitRan r → TextRan x text before before_faults after after_faults r
      text_ran r ran = record {
        ran = ran_weaker (λ c h. (h.0, h.1, of_this (Found before) h.0 c h.2)) (λ f h. (h.0, h.1, inr (u, reads, h.2))) ran;
        done_where = λ m c told is stays. done_by m told c (over_this (Found before) (get m book_file) c is) r ran stays;
        fault_where = λ m f told is stays. fault_by m told f (wrong_this (Found before) (get m book_file) f is) r ran stays;
      }
