use Rattle.std.proofs.Common.{◌≢◌, [], refl, subst, sym, ◌∙◌}
use Rattle.wgsl_source.proofs.Common.{Reader, SameStructs, KnownAll}
use Rattle.wgsl_source.proofs.Kept.{others_last}
use Rattle.wgsl_source.proofs.Meanings.{means_read}
use Rattle.wgsl_source.proofs.Structs.{keeps_further, keeps_same, on_ok}
use Rattle.wgsl_source.proofs.WrittenTypes.{named_same}
use Rattle.wgsl_source.specs.internal.Read.{AreNamed}
use Rattle.wgsl_source.proofs.reader.Reader.read.Goals as goal
use Rattle.wgsl_source.proofs.reader.Reader.read.Goals.{then-has_byte_order_mark+in_ok-push, else-has_byte_order_mark}

pub returns-clause-keeps : goal.returns-clause-keeps
returns-clause-keeps c =
    let old = c.args.self.now in
    let known = KnownAll c.args.declarations.now in
    let start = c.if-has_byte_order_mark.self in
    let named = c.name_all.new.self in
    let is_named = c.in_ok-name_all.ensures.same in
    let ordered = c.read_ordered.new.self in
    let all = c.read_others.new.self in
    let at_start : SameStructs old start = elim c.if-has_byte_order_mark.branch [
      | then-has_byte_order_mark+in_ok-push w ↦ subst (λ (r : Reader). SameStructs old r) (sym w.self-is) (refl, refl, refl)
      | else-has_byte_order_mark w ↦ subst (λ (r : Reader). SameStructs old r) (sym w.self-is) (refl, refl, refl)
    ] in
    let behind = keeps_further known named ordered all c.in_ok-read_ordered.ensures.keeps c.in_ok-read_others.ensures.keeps in
    on_ok c.list_structs.result _ (record {
      named = named;
      same = (is_named.0 ∙ at_start.0, is_named.1 ∙ at_start.1, is_named.2 ∙ at_start.2);
      keeps = keeps_further known named all _ behind (keeps_same known all _ (refl, refl, refl) refl);
    })

pub returns-clause-others : goal.returns-clause-others
returns-clause-others c =
    let all = c.read_others.new.self in
    let read = c.in_ok-read_others.ensures in
    let ds = c.args.declarations.now in
    let others = c.read_others.new.others in
    let sorted = c.sort.new.faults.items in
    let meant = c.in_ok-read_ordered.ensures.means.still c.in_ok-name_all.ensures.meant in
    on_ok c.list_structs.result _ (others_last c.read_ordered.new.self.scope all.scope all.types _ (all.faults.items ≢ []) (sorted ≢ []) ds c.args.others.now others read.scope refl c.sort.ensures
    (read.others meant))

pub returns-clause-listed : goal.returns-clause-listed
returns-clause-listed c =
    let ds = c.args.declarations.now in
    let ordered = c.read_ordered.new.self in
    let read = means_read ds (KnownAll ds) ordered c.read_others.new.self c.in_ok-read_others.ensures.keeps c.in_ok-read_others.ensures.scope in
    c.list_structs.ensures (read.still (c.in_ok-read_ordered.ensures.means.still c.in_ok-name_all.ensures.meant))

pub returns-clause-named : goal.returns-clause-named
returns-clause-named c = λ are.
    let ds = c.args.declarations.now in
    let all = c.read_others.new.self in
    let at_start : AreNamed ds c.if-has_byte_order_mark.self.scope = elim c.if-has_byte_order_mark.branch [
      | then-has_byte_order_mark+in_ok-push w ↦ subst (λ (r : Reader). AreNamed ds r.scope) (sym w.self-is) are
      | else-has_byte_order_mark w ↦ subst (λ (r : Reader). AreNamed ds r.scope) (sym w.self-is) are
    ] in
    let names = c.in_ok-read_others.ensures.keeps.names.names ∙ c.in_ok-read_ordered.ensures.keeps.names.names in
    on_ok c.list_structs.result _ (named_same ds c.name_all.new.self.scope all.scope names (c.in_ok-name_all.ensures.named at_start))

pub returns-clause-meant : goal.returns-clause-meant
returns-clause-meant c =
    let ds = c.args.declarations.now in
    let ordered = c.read_ordered.new.self in
    let read = means_read ds (KnownAll ds) ordered c.read_others.new.self c.in_ok-read_others.ensures.keeps c.in_ok-read_others.ensures.scope in
    on_ok c.list_structs.result _ (read.still (c.in_ok-read_ordered.ensures.means.still c.in_ok-name_all.ensures.meant))
