use Rattle.std.proofs.Common.{[], false, map, subst}
use Rattle.wgsl_module.specs.Checked.{told_of_reading}
use Rattle.wgsl_module.specs.Declarations.{written_in}
use Rattle.wgsl_module.specs.Recursion.{HasCallOrder}
use Rattle.wgsl_module.specs.Told.{AreTold}
use Rattle.wgsl_module.specs.Runs.{HasRuns}
use Rattle.wgsl_module.proofs.Allowed.{all_read, read_whole}
use Rattle.wgsl_module.proofs.Kept.{nothing_told}
use Rattle.wgsl_module.proofs.module.check.Goals as goal
use Rattle.wgsl_reader.specs.Modules.{ReadsModule}
use Rattle.wgsl_reader.specs.Reading.{kind_of}

pub returns-clause-read : goal.returns-clause-read
returns-clause-read c =
    let grammar = c.in_ok-grammar.grammar in
    let before = c.in_ok-checked.checked.faults.items in
    let reads = subst (λ ts. ReadsModule (map kind_of ts) grammar.events.items grammar.misread.items) c.deref.ensures.value c.in_ok-grammar.ensures in
    let told = subst (λ ts. AreTold (told_of_reading ts grammar.events.items grammar.misread.items) before) c.deref-3.ensures.value c.in_ok-checked.ensures.told in
    let faults = c.tell_untyped.new.faults.items in
    λ none. read_whole c.in_ok-tokens.tokens.items grammar.events.items grammar.misread.items faults reads (λ b h. c.in_ok-tell_untyped.ensures.kept b (told b h)) none

pub returns-clause-parts : goal.returns-clause-parts
returns-clause-parts c =
    let grammar = c.in_ok-grammar.grammar in
    let found = c.in_ok-checked.ensures.parts in (
      grammar.events.items,
      grammar.misread.items,
      found.0,
      subst (λ ts. ReadsModule (map kind_of ts) grammar.events.items grammar.misread.items) c.deref.ensures.value c.in_ok-grammar.ensures,
      subst (λ ts. HasRuns c.args.text.now ts grammar.events.items found.0 c.in_ok-checked.checked.parts.items) c.deref-3.ensures.value found.1,
      λ none. found.2 (nothing_told c.in_ok-checked.checked.faults.items c.tell_untyped.new.faults.items c.in_ok-tell_untyped.ensures.kept none),
    )

pub returns-clause-calls : goal.returns-clause-calls
returns-clause-calls c = λ none.
    let grammar = c.in_ok-grammar.grammar in
    let tokens = c.in_ok-tokens.tokens.items in
    let before = c.in_ok-checked.checked.faults.items in
    let after = c.tell_untyped.new.faults.items in
    let kept = c.in_ok-tell_untyped.ensures.kept in
    let reads = subst (λ ts. ReadsModule (map kind_of ts) grammar.events.items grammar.misread.items) c.deref.ensures.value c.in_ok-grammar.ensures in
    let told = subst (λ ts. AreTold (told_of_reading ts grammar.events.items grammar.misread.items) before) c.deref-3.ensures.value c.in_ok-checked.ensures.told in
    let whole = all_read tokens grammar.events.items grammar.misread.items after (λ b h. kept b (told b h)) none in (
      grammar.events.items,
      subst (λ ms. ReadsModule (map kind_of tokens) grammar.events.items ms) whole reads,
      subst (λ ts. HasCallOrder [] c.args.text.now ts (written_in false grammar.events.items)) c.deref-3.ensures.value
          (c.in_ok-checked.ensures.calls whole (nothing_told before after kept none)),
    )
