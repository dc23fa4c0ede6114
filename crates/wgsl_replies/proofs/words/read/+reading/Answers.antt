use Rattle.wgsl_replies.proofs.Common.{◌≡◌, ◌+◌, ◌-◌, ◌<◌, Some, [], ◌∷◌, ◌++◌, map, refl, sym, ap, length-set, ◌∙◌, arith, rules, map-append, around, scalar}
use Rattle.wgsl_replies.proofs.Common.{wrapped, member_view, view, scalar_named, long, a_word, one, optional, layer_named, member_at, type_at, type_from}
use Rattle.wgsl_core.specs.declared.ty.Type.{the_lemmas}
use Rattle.wgsl_replies.proofs.Reading.{in_layers, missed, next_layer, no_count, no_layer, no_members, not_opened, nothing_in_layer, nothing_inside, opened, opened_layer, reads_as, scalar_found, scalar_in_layer, scalar_is, struct_found, take_set, times_end, times_next, times_none, times_start}
use Rattle.wgsl_replies.proofs.words.read.+reading.Goals as goal

pub read_type-returns-in_err-word-clause-read : goal.read_type-returns-in_err-word-clause-read
read_type-returns-in_err-word-clause-read t c =
    missed view (a_word c.args.words.now) _ _ c.from_residual.ensures.1 c.in_err-word.ensures.read _ _ (not_opened c.args.words.now)

pub read_type-returns-clause-read : goal.read_type-returns-clause-read
read_type-returns-clause-read t c =
    reads_as view _ _ _ _ (opened c.args.words.now _ _ c.in_ok-word.ensures.read) c.read_type_at.ensures.read

pub read_inside-returns-in_err-word-clause-read : goal.read_inside-returns-in_err-word-clause-read
read_inside-returns-in_err-word-clause-read t c =
    missed view (a_word c.args.words.now) _ _ c.from_residual.ensures.1 c.in_err-word.ensures.read _ _ (nothing_in_layer c.args.outer c.args.words.now)

pub read_inside-returns-in_ok-inner-in-Some-clause-read : goal.read_inside-returns-in_ok-inner-in-Some-clause-read
unfolding scalar_named
read_inside-returns-in_ok-inner-in-Some-clause-read t c =
    let inside : view c.in_ok-inner-in-Some.inner.value ≡ scalar c.in-Some.scalar = search rules in
    scalar_in_layer c.args.outer c.args.words.now _ _ c.in-Some.scalar _ c.in_ok-word.ensures.read (sym c.scalar_named.ensures ∙ c.in-Some.is) (c.around.ensures ∙ ap (around c.args.outer) inside)

pub read_inside-returns-in-None-clause-read : goal.read_inside-returns-in-None-clause-read
read_inside-returns-in-None-clause-read t c =
    reads_as view _ _ _ _ (opened_layer c.args.outer c.args.words.now _ _ c.in_ok-word.ensures.read) c.read_layers.ensures.read

pub read_layers-loop-layer-init : goal.read_layers-loop-layer-init
read_layers-loop-layer-init t c = (search rules, omega arith, omega arith, refl, refl, tt)

pub read_layers-returns-in_err-layer-clause-read : goal.read_layers-returns-in_err-layer-clause-read
read_layers-returns-in_err-layer-clause-read t c =
    missed view (optional (layer_named c.loop-layer.word.now) c.loop-layer.words) _ _ c.from_residual.ensures.1 c.in_err-layer.ensures.read _ _ (λ none. c.loop-layer.invariant.4 ∙ no_layer _ _ _ none)

pub read_layers-returns-in_err-word-clause-read : goal.read_layers-returns-in_err-word-clause-read
read_layers-returns-in_err-word-clause-read t c =
    let found : optional (layer_named c.loop-layer.word.now) c.loop-layer.words ≡ Some (Some c.in-Some.layer, c.read_next.new.words) = search rules in
    missed view (a_word c.read_next.new.words) _ _ c.from_residual-in_err-word.ensures.1 c.in_err-word.ensures.read _ _
    (λ none. c.loop-layer.invariant.4 ∙ nothing_inside _ _ _ _ _ found none)

pub read_layers-loop-layer-preserved : goal.read_layers-loop-layer-preserved
unfolding scalar_named
read_layers-loop-layer-preserved t c =
    let room : c.loop-layer.count < 4 = search rules in
    let found : optional (layer_named c.loop-layer.word.now) c.loop-layer.words ≡ Some (Some c.in-Some.layer, c.read_next.new.words) = search rules in (
      search rules,
      omega (arith, c.in_ok-word.ensures.shorter, c.in_ok-layer.ensures.shorter, c.loop-layer.invariant.1),
      omega (arith, room),
      simp length-set c.loop-layer.invariant.3,
      c.loop-layer.invariant.4 ∙ (next_layer _ _ _ _ _ found _ _ c.in_ok-word.ensures.read
          ∙ ap (λ ls. in_layers ls (type_from type_at c.in_ok-word.word.now c.next.new.self)) (sym (take_set c.loop-layer.layers c.loop-layer.count c.in-Some.layer (omega (arith, room, c.loop-layer.invariant.3))))),
      scalar_is _ c.in_ok-word.word.now c.scalar_named-scalar.ensures,
    )

pub read_layers-returns-in-Some-scalar-clause-read : goal.read_layers-returns-in-Some-scalar-clause-read
read_layers-returns-in-Some-scalar-clause-read t c =
    let same : c.read_next.new.words ≡ c.loop-layer.words = search rules in
    let named : scalar_named c.loop-layer.word.now ≡ Some c.in-Some-scalar.scalar = search rules in
    let inside : view c.from.result ≡ scalar c.in-Some-scalar.scalar = search rules in
    c.loop-layer.invariant.4 ∙ (ap (in_layers _) (ap (type_from type_at c.loop-layer.word.now) (sym same) ∙ scalar_found c.loop-layer.word.now c.read_next.new.words c.in-Some-scalar.scalar named)
    ∙ ap (λ t. Some (t, c.read_next.new.words)) (ap (wrapped _) (sym inside) ∙ sym c.in_ok-wrap.ensures))

pub read_layers-returns-in_err-innermost-clause-read : goal.read_layers-returns-in_err-innermost-clause-read
read_layers-returns-in_err-innermost-clause-read t c =
    let same : c.read_next.new.words ≡ c.loop-layer.words = search rules in
    missed view (type_from type_at c.loop-layer.word.now c.read_next.new.words) _ _ c.from_residual-in_err-innermost.ensures.1 c.in_err-innermost.ensures.read _ _
    (λ none. c.loop-layer.invariant.4 ∙ ap (in_layers _) (ap (type_from type_at c.loop-layer.word.now) (sym same) ∙ none))

pub read_layers-returns-clause-read : goal.read_layers-returns-clause-read
read_layers-returns-clause-read t c =
    let same : c.read_next.new.words ≡ c.loop-layer.words = search rules in
    c.loop-layer.invariant.4 ∙ (ap (in_layers _) (ap (type_from type_at c.loop-layer.word.now) (sym same) ∙ c.in_ok-innermost.ensures.read) ∙ ap (λ t. Some (t, c.read_type_at.new.words)) (sym c.in_ok-wrap-2.ensures))

pub read_struct-returns-in_err-count-clause-read : goal.read_struct-returns-in_err-count-clause-read
read_struct-returns-in_err-count-clause-read t c =
    missed view (one long c.next.new.self) _ _ c.from_residual-in_err-count.ensures.1 c.in_err-count.ensures.read _ _ (no_count c.args.words.now _ _ c.in_ok-next.ensures.read)

pub read_struct-loop-init : goal.read_struct-loop-init
read_struct-loop-init t c = (
  omega (arith, c.in_ok-count.ensures.shorter, c.in_ok-next.ensures.shorter),
  rw c.new-members.ensures.items (times_start (member_at type_at) _ _ _ (omega arith)),
)

pub read_struct-loop-preserved : goal.read_struct-loop-preserved
read_struct-loop-preserved t c =
    let pushed : c.push.new.self.items ≡ c.loop.members.items ++ c.in_ok-read_member.field-0 ∷ [] = search rules in (
      omega (arith, c.in_ok-read_member.ensures.shorter, c.loop.invariant.0),
      c.loop.invariant.1 ∙ times_next (member_at type_at) _ _ _ _ _ _ _ (omega (arith, c.loop-test.true)) c.in_ok-read_member.ensures.read (ap (map member_view) pushed ∙ map-append member_view c.loop.members.items (c.in_ok-read_member.field-0 ∷ [])),
    )

pub read_struct-returns-in_err-read_member-clause-read : goal.read_struct-returns-in_err-read_member-clause-read
read_struct-returns-in_err-read_member-clause-read t c =
    missed view (member_at type_at c.loop.words) _ _ c.from_residual-in_err-read_member.ensures.1 c.in_err-read_member.ensures.read _ _
    (λ none. no_members c.args.words.now _ _ c.in_ok-next.ensures.read _ _ c.in_ok-count.ensures.read (c.loop.invariant.1 ∙ times_none (member_at type_at) _ (c.in_ok-count.count - (c.loop.counter + 1)) _ _ (omega (arith, c.loop-test.true)) none))

pub read_struct-returns-clause-read : goal.read_struct-returns-clause-read
read_struct-returns-clause-read t c =
    struct_found c.args.words.now _ _ c.in_ok-next.ensures.read _ _ c.in_ok-count.ensures.read _ _ _ (c.loop.invariant.1 ∙ times_end (member_at type_at) _ _ _ (omega (arith, c.loop-test.false)))
    (c.in_ok-from_struct.ensures ∙ search (rules, the_lemmas, c.in_ok-name.ensures.ok))
