use Rattle.wgsl_replies.proofs.Common.{view, last, type_at}
use Rattle.wgsl_replies.proofs.Reading.{no_first, no_second, none_given, pair_found}
use Rattle.wgsl_replies.proofs.words.read.read_pair.Goals as goal

pub returns-in_err-first : goal.returns-in_err-first
returns-in_err-first c =
    none_given (λ p. (view p.0, view p.1)) (type_at c.args.words.now) _ _ c.from_residual.ensures.1 c.in_err-first.ensures.read _ (no_first c.args.words.now)

pub returns-in_err-read_last_type : goal.returns-in_err-read_last_type
returns-in_err-read_last_type c =
    none_given (λ p. (view p.0, view p.1)) (last type_at c.read_type.new.words) _ _ c.from_residual-in_err-read_last_type.ensures.1 c.in_err-read_last_type.ensures _ (no_second c.args.words.now _ _ c.in_ok-first.ensures.read)

pub returns : goal.returns
returns c = pair_found c.args.words.now _ _ _ c.in_ok-first.ensures.read c.in_ok-read_last_type.ensures
