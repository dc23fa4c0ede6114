use Rattle.std.proofs.Common.{◌≡◌, length, map}
use Rattle.wgsl_core.specs.View.{view}
use Rattle.wgsl_types.specs.Typed.{numbers_to}
use Rattle.wgsl_types.specs.declared.typed.Typed.{Typed}
use Rattle.wgsl_types.proofs.typed.typed_lines.Given as goal

-- the values so far have the types so far, numbered from 1
abbrev pub invariant-loop-ty : goal.invariant-loop-ty
invariant-loop-ty l = record {
  types : map (λ (x : Typed). view x.ty) l.values.items ≡ map view l.yielded;
  lines : map (λ (x : Typed). x.line) l.values.items ≡ numbers_to (length l.values.items);
}
