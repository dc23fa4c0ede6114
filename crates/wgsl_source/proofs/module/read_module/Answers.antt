use Rattle.std.proofs.Common.{◌≡◌, None, Some, ap, map, sym, subst, ◌∙◌, All}
use Rattle.wgsl_source.proofs.Common.{AreAllTold, IsDeclared, AreAll, AreListed, IsDeclaration, KnownAll, names_of, Text}
use Rattle.wgsl_source.proofs.Declarations.{all_declarations, all_told, type_named, value_named}
use Rattle.wgsl_source.proofs.Kept.{has_declared}
use Rattle.wgsl_source.proofs.Structs.{all_declared}
use Rattle.wgsl_source.specs.TextStructs.{IsTypeNamed}
use Rattle.wgsl_source.specs.WrittenTypes.{environment}
use Rattle.wgsl_source.specs.internal.Read.{AreMeant}
use Rattle.wgsl_source.proofs.module.read_module.Goals as goal

pub returns-in-Ok-clause-declared : goal.returns-in-Ok-clause-declared
returns-in-Ok-clause-declared c =
    let t = c.args.text in
    let whole = c.args.grammar.now.events.items in
    let are = subst (AreAll t whole) (sym c.deref.ensures.value) c.in_ok-declarations.ensures in
    let new = c.read.new.self in
    let keeps = c.in-Ok.ensures.keeps in
    let text : keeps.named.scope.text ≡ t = keeps.same.2 ∙ c.new.ensures.text in
    let env = environment new.scope new.types in
    let all = all_declared (KnownAll c.deref.result.now) keeps.named new (ap (λ ss. ss.items) keeps.same.1 ∙ c.new-2.ensures.items) keeps.keeps whole
    (subst (λ (t : Text). All (IsDeclaration t whole) c.deref.result.now) (sym text) (all_declarations t whole c.deref.result.now are)) in
    let found = c.in-Ok.ensures in
    let ds = c.deref.result.now in
    let names = found.named (λ name index is. absurd (let no : None ≡ Some index = sym (c.new.ensures.none name) ∙ is in cc)) in
    let there = keeps.keeps.text ∙ text in
    let meant = subst (λ (t : Text). AreMeant t env new.structs.items ds new.scope.meanings.items) there found.meant in
    let none = c.none-others.ensures in
    let l = c.in-Ok.listed in
    let listed = subst (λ (t : Text). AreListed t env new.structs.items ds l.in_text.items (names_of l)) there found.listed in
    let m = c.finished.ensures in
    record {
      env = env;
      elements = ap (λ es. es.items) (sym m.elements);
      sites = are.sites;
      stand = are.there;
      types = λ name ty is. subst (λ ss. IsTypeNamed t env ss.items are.sites name ty) (sym m.structs) (type_named t env new.structs.items ds are.sites new.scope are.are meant names name ty is);
      values = value_named t env new.structs.items ds are.sites new.scope are.are meant names;
      structs = subst (λ ss. All (IsDeclared t env whole) ss.items) (sym m.structs) (subst (λ (t : Text). All (IsDeclared t env whole) new.structs.items) text all);
      told =
          subst (λ v. AreAllTold t env whole c.finished.result.structs.items c.finished.result.in_text.items (map (λ name. name.now) v.items)) (sym m.left_out)
          (subst (λ v. AreAllTold t env whole c.finished.result.structs.items v.items (names_of l)) (sym m.in_text)
          (subst (λ v. AreAllTold t env whole v.items l.in_text.items (names_of l)) (sym m.structs) (all_told t env new.structs.items whole ds l.in_text.items (names_of l) are listed)));
      others =
          has_declared t new.scope new.types whole ds new.faults.items c.none-others.result c.read.new.others c.finished.result are there found.others none.variables none.overrides none.entry_points
          none.aliases (ap (λ v. v.items) m.faults) m.variables m.overrides m.entry_points m.aliases;
    }
