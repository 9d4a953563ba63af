use Rattle.std.proofs.Common.{◌≡◌, map, drop}
use Rattle.lil_base.specs.declared.fault.SourceFault.{SourceFault}
use Rattle.lil_imports.specs.{declared.gathering.Gathered.Gathered, Gathering.{Gathers, HasImportFault}, Ran.Found}
use Rattle.lil_imports.proofs.gathering.gather_all.Given as goal

-- nothing changed, and what holds from here on holds from the start
abbrev pub invariant-loop-at : goal.invariant-loop-at
invariant-loop-at g l = record {
  same : g.V.Volume.files l.volume ≡ g.V.Volume.files l.fn.volume;
  quiet : g.V.Volume.faults l.volume ≡ g.V.Volume.faults l.fn.volume;
  right : (r : Gathered) → Gathers l.u (Found (g.V.Volume.files l.fn.volume)) l.all (map (λ i. i.now) (drop l.at-index l.modules)) r
      → Gathers l.u (Found (g.V.Volume.files l.fn.volume)) l.fn.of (map (λ i. i.now) l.modules) r;
  wrong : (f : SourceFault) → HasImportFault l.u (Found (g.V.Volume.files l.fn.volume)) l.all (map (λ i. i.now) (drop l.at-index l.modules)) f
      → HasImportFault l.u (Found (g.V.Volume.files l.fn.volume)) l.fn.of (map (λ i. i.now) l.modules) f;
}
