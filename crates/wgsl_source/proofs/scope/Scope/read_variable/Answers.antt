use Rattle.std.proofs.Common.{refl, subst}
use Rattle.wgsl_source.proofs.WrittenTypes.{still_type, stays_same}
use Rattle.wgsl_source.specs.Declarations.{declared_type}
use Rattle.wgsl_source.specs.WrittenTypes.{HasType, environment}
use Rattle.wgsl_source.proofs.scope.Scope.read_variable.Goals as goal

pub returns-in_ok-check-in_default-clause-read : goal.returns-in_ok-check-in_default-clause-read
returns-in_ok-check-in_default-clause-read c = λ later g.
    let s = c.args.self.now in
    let types = c.read_stored_type.new.types in
    let ty = c.in_ok-ty-in_default.ty in
    let read = c.in_ok-attributes.ensures.read in
    record {
      stands = record { name = refl; place = refl; attributes = read.attributes; there = read.there };
      group = read.say.group;
      binding = read.say.binding;
      qualified = c.in_ok-space.ensures.qualified;
      written =
          still_type s.text s s types later (declared_type c.args.declaration.now.rest.now) ty (stays_same s s refl) g
          (subst (λ es. HasType s.text (environment s types) es ty) c.initialized-initialized.ensures.ty c.in_ok-ty-in_default.ensures.written);
    }
