use Rattle.std.proofs.Common.{refl}
use Rattle.wgsl_source.proofs.Common.{same_Some}
use Rattle.wgsl_source.specs.TextDeclarations.{of_aliases, of_entry_points, of_other_kind, of_overrides, of_variables}
use Rattle.wgsl_source.specs.WrittenTypes.{environment, meaning_of}
use Rattle.wgsl_source.specs.internal.Others.{left}
use Rattle.wgsl_source.specs.declared.declaration.DeclarationKind.TheVariants as kinds
use Rattle.wgsl_source.proofs.Kept.{adds_left, all_added, one_added}
use Rattle.wgsl_source.proofs.others.Others.read.Goals as goal

pub returns-in-Variable-clause-read : goal.returns-in-Variable-clause-read
returns-in-Variable-clause-read c = λ readable later g meant.
    let s = c.args.scope.now in
    let d = c.args.declaration.now in
    let a = c.args.self.now in
    let r = c.keep.result in
    let is = c.in-Variable.is in
    let read = c.read_variable.ensures.read later g in
    all_added s later r d kinds.Variable a _ is
    (one_added (of_variables s.text (environment s later)) r c.read_variable.result d a.variables.items _ readable is read c.keep.ensures.added c.keep.ensures.same) refl refl refl

pub returns-in-Override-clause-read : goal.returns-in-Override-clause-read
returns-in-Override-clause-read c = λ readable later g meant.
    let s = c.args.scope.now in
    let d = c.args.declaration.now in
    let a = c.args.self.now in
    let r = c.keep-in-Override.result in
    let is = c.in-Override.is in
    let kept = c.keep-in-Override.ensures in
    all_added s later r d kinds.Override a _ is refl
    (one_added (of_overrides s.text (environment s later)) r c.read_override.result d a.overrides.items _ readable is (c.read_override.ensures.read later g) kept.added kept.same) refl refl

pub returns-in-Function-clause-read : goal.returns-in-Function-clause-read
returns-in-Function-clause-read c = λ readable later g meant.
    let s = c.args.scope.now in
    let d = c.args.declaration.now in
    let a = c.args.self.now in
    let r = c.keep-in-Function.result in
    let is = c.in-Function.is in
    let kept = c.keep-in-Function.ensures in
    all_added s later r d kinds.Function a _ is refl refl
    (one_added (of_entry_points s.text (meaning_of s)) r c.read_function.result d a.entry_points.items _ readable is c.read_function.ensures kept.added kept.same) refl

pub returns-in-Alias-clause-read : goal.returns-in-Alias-clause-read
returns-in-Alias-clause-read c = λ readable later g meant.
    let s = c.args.scope.now in
    let d = c.args.declaration.now in
    let a = c.args.self.now in
    let r = c.keep-in-Alias.result in
    let is = c.in-Alias.is in
    let kept = c.keep-in-Alias.ensures in
    all_added s later r d kinds.Alias a _ is refl refl refl
    (one_added (of_aliases s.text (environment s later)) r c.alias.result d a.aliases.items _ readable is (c.alias.ensures is later meant) kept.added kept.same)

pub returns-in_default-clause-read : goal.returns-in_default-clause-read
returns-in_default-clause-read c = λ readable later g meant.
    let s = c.args.scope.now in
    let d = c.args.declaration.now in
    let a = c.args.self.now in
    let isnt = c.in_default in
    record {
      variables = adds_left (of_variables s.text (environment s later)) ⊥ d a.variables.items (left (of_other_kind (λ is. isnt.not-Variable (same_Some d.kind kinds.Variable is))));
      overrides = adds_left (of_overrides s.text (environment s later)) ⊥ d a.overrides.items (left (of_other_kind (λ is. isnt.not-Override (same_Some d.kind kinds.Override is))));
      entry_points = adds_left (of_entry_points s.text (meaning_of s)) ⊥ d a.entry_points.items (left (of_other_kind (λ is. isnt.not-Function (same_Some d.kind kinds.Function is))));
      aliases = adds_left (of_aliases s.text (environment s later)) ⊥ d a.aliases.items (left (of_other_kind (λ is. isnt.not-Alias (same_Some d.kind kinds.Alias is))));
    }
