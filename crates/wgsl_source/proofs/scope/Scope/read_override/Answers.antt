use Rattle.std.proofs.Common.{◌∙◌, ap, nat_eq, length, not, refl, subst}
use Rattle.wgsl_source.proofs.WrittenTypes.{still_scalar}
use Rattle.wgsl_source.specs.Declarations.{declared_type}
use Rattle.wgsl_source.specs.TextDeclarations.{HasScalar}
use Rattle.wgsl_source.specs.WrittenTypes.{environment}
use Rattle.wgsl_source.proofs.scope.Scope.read_override.Goals as goal

pub returns-clause-read : goal.returns-clause-read
returns-clause-read c = λ later g.
    let s = c.args.self.now in
    let events = c.args.declaration.now.rest.now in
    let env = environment s later in
    let read = c.in_ok-attributes.ensures.read in
    let initialized = c.initialized-initialized.ensures in
    let found = still_scalar s.text s c.scalar_type.new.types later c.initialized-initialized.result.ty.now c.initialized-initialized.result.value.now c.in_ok-scalar_type.field-0 g c.in_ok-scalar_type.ensures.read in
    let typed = subst (λ es. HasScalar s.text env es c.initialized-initialized.result.value.now c.in_ok-scalar_type.field-0) initialized.ty found in
    record {
      stands = record { name = refl; place = refl; attributes = read.attributes; there = read.there };
      id = read.say.id;
      has_type = subst (λ es. HasScalar s.text env (declared_type events) es c.in_ok-scalar_type.field-0) initialized.value typed;
      has_default = ap not (c.is_empty.ensures ∙ ap (λ es. nat_eq (length es) 0) initialized.value);
    }
