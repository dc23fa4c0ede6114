-- A step of a run: a block is answered, the last line is answered, a read failed.
use Rattle.wgsl_lines.proofs.Common.{◌≡◌, ◌∙◌, ℕ, List, [], ◌++◌, Option, Some, None, ap, append_assoc, drop, sym, take, append-nil, take-append-drop, Appends}
use Rattle.wgsl_lines.proofs.Common.{Keeps, ◌≢◌, Bool, ◌∷◌, Result, Ok, Err, refl, string_bytes, subst, All-nil, AllocError, Consumes, IsAtEnd, RunError, Read}
use Rattle.wgsl_lines.proofs.Common.{Write, Memory, Session, Prints, PrintsFirst, PrintsUntil, AnswersLine, HasPrinted, HasStopped, HasTaken, IsAtStart}
use Rattle.wgsl_lines.proofs.Common.{IsBetween, StopsAfter, RuleSet}
use Rattle.std.specs.Prelude.{IfErr, IfSome, MatchResult, OnErr, OnOk}
use Rattle.wgsl_lines.proofs.Taken.{prints_first, cut_of_all, cut_of_first, taken_last, taken_none, taken_so_far, until_none}

-- nothing is written
pub appends_none : (now : Option (List ℕ)) → Appends now now []
appends_none None = tt
appends_none (Some held) = sym (append-nil held)

-- one text is written after another
pub appends_more : (start before now : Option (List ℕ)) (text more : List ℕ) → Appends start before text → Appends before now more → Appends start now (text ++ more)
appends_more None before now text more a b = tt
appends_more (Some held) None now text more a b = absurd a
appends_more (Some held) (Some then') None text more a b = absurd b
appends_more (Some held) (Some then') (Some new) text more a b = b ∙ (ap (λ t. t ++ more) a ∙ append_assoc held text more)

-- what is held stays
pub appends_kept : (start before now : Option (List ℕ)) (text : List ℕ) → Appends start before text → Keeps before now → Appends start now text
appends_kept None before now text a kept = tt
appends_kept (Some held) None now text a kept = absurd a
appends_kept (Some held) (Some then') None text a kept = absurd kept
appends_kept (Some held) (Some then') (Some new) text a kept = kept ∙ a

-- a beginning of the bytes is written, and the rest of them is left
pub record IsWritten (bytes rest : List ℕ) (start now : Option (List ℕ)) : Type 0 where
  pub text : List ℕ
  pub bytes_are : bytes ≡ text ++ rest
  pub written : Appends start now text

-- some of the rest is written
pub written_more : (bytes rest : List ℕ) (start before now : Option (List ℕ)) (count : ℕ) → IsWritten bytes rest start before
    → Appends before now (take count rest) → IsWritten bytes (drop count rest) start now
written_more bytes rest start before now count w more = record {
  text = w.text ++ take count rest;
  bytes_are = w.bytes_are ∙ (ap (λ r. w.text ++ r) (sym (take-append-drop count rest)) ∙ sym (append_assoc w.text (take count rest) (drop count rest)));
  written = appends_more start before now w.text (take count rest) w.written more;
}

-- a write failed after a beginning of the answers
pub record IsCutOff (answers : List ℕ) (before now : Option (List ℕ)) : Type 0 where
  pub text : List ℕ
  pub rest : List ℕ
  pub answers_are : answers ≡ text ++ rest
  pub some : answers ≢ []
  pub written : Appends before now text

pub cut_off : {answers : List ℕ} {before now : Option (List ℕ)} → (text : List ℕ) × (rest : List ℕ) × (answers ≡ text ++ rest) × Appends before now text → answers ≢ [] → IsCutOff answers before now
cut_off cut some = record { text = cut.0; rest = cut.1; answers_are = cut.2; some = some; written = cut.3 }

-- Between two reads: these bytes were read since the run began.
pub record HasReached (rules : RuleSet) (input left start now : Option (List ℕ)) (session : Session) : Type 0 where
  pub bytes : List ℕ
  pub consumed : Consumes input left bytes
  pub between : IsBetween rules bytes start now session

pub keeps_all : (left : Option (List ℕ)) → Keeps left left
keeps_all None = tt
keeps_all (Some bytes) = refl

module _ (rules : RuleSet) where
  some_more : (text more : List ℕ) → more ≢ [] → text ++ more ≢ []
  some_more [] more some = some
  some_more (byte ∷ text) more some = λ none. absurd (cc none)

  module _ (bytes : List ℕ) (start before now : Option (List ℕ)) (old mid : Session) (at : IsBetween rules bytes start before old) where
    -- the block is taken, and its answers are written
    pub block_done : (block : List ℕ) (new : Session) → HasTaken rules (bytes ++ block) at.text mid → Appends before now (string_bytes mid.answers)
        → string_bytes new.answers ≡ [] → new.line ≡ mid.line → new.all_readable ≡ mid.all_readable → IsBetween rules (bytes ++ block) start now new
    block_done block new taken written none line readable = record {
      text = at.text ++ string_bytes mid.answers;
      written = appends_more start before now at.text (string_bytes mid.answers) at.written written;
      taken = record {
        ended = taken.ended;
        begun = taken.begun;
        lines = taken.lines;
        no_line_feed = taken.no_line_feed;
        replies = taken.replies;
        each = taken.each;
        answers = ap (λ t. (at.text ++ string_bytes mid.answers) ++ t) none ∙ (append-nil (at.text ++ string_bytes mid.answers) ∙ taken.answers);
        all_readable = readable ∙ taken.all_readable;
        kept = ap (λ l. l.bytes.items) line ∙ taken.kept;
        number = ap (λ l. l.number) line ∙ taken.number;
      };
      none_gathered = none;
    }

    -- out of memory in the block, and the answers before are written
    pub block_stops : (block : List ℕ) → StopsAfter rules Memory (bytes ++ block) (at.text ++ string_bytes mid.answers) → Appends before now (string_bytes mid.answers)
        → (more : List ℕ) → HasStopped rules ((bytes ++ block) ++ more) start now Memory
    block_stops block stops written = λ more. record {
      text = at.text ++ string_bytes mid.answers;
      written = appends_more start before now at.text (string_bytes mid.answers) at.written written;
      prints = stops more;
    }

    whole : (answers : List ℕ) (off : IsCutOff answers before now) → at.text ++ answers ≡ (at.text ++ off.text) ++ off.rest
    whole answers off = ap (λ t. at.text ++ t) off.answers_are ∙ sym (append_assoc at.text off.text off.rest)

    -- a write of the block's answers failed
    pub block_cut : (block : List ℕ) → StopsAfter rules Memory (bytes ++ block) (at.text ++ string_bytes mid.answers) → IsCutOff (string_bytes mid.answers) before now
        → (more : List ℕ) → HasStopped rules ((bytes ++ block) ++ more) start now Write
    block_cut block stops off = λ more. record {
      text = at.text ++ off.text;
      written = appends_more start before now at.text off.text at.written off.written;
      prints = cut_of_first rules ((bytes ++ block) ++ more) (at.text ++ off.text) off.rest (at.text ++ string_bytes mid.answers) (stops more)
          (whole (string_bytes mid.answers) off) (some_more at.text (string_bytes mid.answers) off.some);
    }

    all_lines : AnswersLine rules (old.line.bytes.items ++ []) old mid → Prints rules bytes (at.text ++ string_bytes mid.answers) mid.all_readable
    all_lines a =
        subst (λ b. Prints rules b (at.text ++ string_bytes mid.answers) mid.all_readable) (append-nil bytes)
        (taken_last rules bytes at.text old mid at.taken [] a (All-nil (λ byte. byte ≢ 10)))

    -- the last line is answered, and the answer is written
    pub last_done : (readable : Bool) → AnswersLine rules (old.line.bytes.items ++ []) old mid → Appends before now (string_bytes mid.answers) → readable ≡ mid.all_readable → HasPrinted rules bytes start now readable
    last_done readable a written is = record {
      text = at.text ++ string_bytes mid.answers;
      written = appends_more start before now at.text (string_bytes mid.answers) at.written written;
      prints = subst (Prints rules bytes (at.text ++ string_bytes mid.answers)) (sym is) (all_lines a);
    }

    so_far : string_bytes mid.answers ≡ string_bytes old.answers → PrintsUntil rules Memory bytes (at.text ++ string_bytes mid.answers)
    so_far same =
        subst (λ t. PrintsUntil rules Memory bytes (at.text ++ t)) (sym same)
        (subst (λ b. PrintsUntil rules Memory b (at.text ++ string_bytes old.answers)) (append-nil bytes) (taken_so_far rules bytes at.text old at.taken []))

    -- out of memory in the last line
    pub last_stops : string_bytes mid.answers ≡ string_bytes old.answers → Appends before now (string_bytes mid.answers) → HasStopped rules bytes start now Memory
    last_stops same written = record {
      text = at.text ++ string_bytes mid.answers;
      written = appends_more start before now at.text (string_bytes mid.answers) at.written written;
      prints = so_far same;
    }

    -- a write of the last answer failed
    pub last_cut : (ended : Result (Unit {0}) AllocError) → OnOk ended (AnswersLine rules (old.line.bytes.items ++ []) old mid) → OnErr ended (string_bytes mid.answers ≡ string_bytes old.answers)
        → IsCutOff (string_bytes mid.answers) before now → HasStopped rules bytes start now Write
    last_cut (Ok _) a same off = record {
      text = at.text ++ off.text;
      written = appends_more start before now at.text off.text at.written off.written;
      prints = cut_of_all rules bytes (at.text ++ off.text) off.rest (at.text ++ string_bytes mid.answers) mid.all_readable (all_lines a)
          (whole (string_bytes mid.answers) off) (some_more at.text (string_bytes mid.answers) off.some);
    }
    last_cut (Err _) a same off = record {
      text = at.text ++ off.text;
      written = appends_more start before now at.text off.text at.written off.written;
      prints = cut_of_first rules bytes (at.text ++ off.text) off.rest (at.text ++ string_bytes mid.answers) (so_far same)
          (whole (string_bytes mid.answers) off) (some_more at.text (string_bytes mid.answers) off.some);
    }

  consumes_none : (input : Option (List ℕ)) → Consumes input input []
  consumes_none None = tt
  consumes_none (Some bytes) = refl

  consumes_more : (input left after : Option (List ℕ)) (bytes more : List ℕ) → Consumes input left bytes → Consumes left after more → Consumes input after (bytes ++ more)
  consumes_more None left after bytes more a b = tt
  consumes_more (Some all) None after bytes more a b = absurd a
  consumes_more (Some all) (Some rest) None bytes more a b = absurd b
  consumes_more (Some all) (Some rest) (Some last) bytes more a b = a ∙ (ap (λ r. bytes ++ r) b ∙ sym (append_assoc bytes more last))

  consumes_kept : (input left after : Option (List ℕ)) (bytes : List ℕ) → Consumes input left bytes → Keeps left after → Consumes input after bytes
  consumes_kept None left after bytes a kept = tt
  consumes_kept (Some all) None after bytes a kept = absurd a
  consumes_kept (Some all) (Some rest) None bytes a kept = absurd kept
  consumes_kept (Some all) (Some rest) (Some last) bytes a kept = a ∙ ap (λ r. bytes ++ r) (sym kept)

  -- before the first read
  pub reached_none : (input start : Option (List ℕ)) (session : Session) → IsAtStart session → HasReached rules input input start start session
  reached_none input start session at = record {
    bytes = [];
    consumed = consumes_none input;
    between = record { text = []; written = appends_none start; taken = taken_none rules session at; none_gathered = at.no_answers };
  }

  -- the run stops, and the input is known
  pub stops_known : (input left start now : Option (List ℕ)) (bytes : List ℕ) (error : RunError) → Consumes input left bytes → ((more : List ℕ) → HasStopped rules (bytes ++ more) start now error)
      → IfSome input (λ all. HasStopped rules all start now error)
  stops_known None left start now bytes error consumed stopped = tt
  stops_known (Some all) None start now bytes error consumed stopped = absurd consumed
  stops_known (Some all) (Some rest) start now bytes error consumed stopped = subst (λ b. HasStopped rules b start now error) (sym consumed) (stopped rest)

  -- the input has ended, and it is known
  pub ends_known : (P : List ℕ → Type 0) (input left : Option (List ℕ)) (bytes : List ℕ) → Consumes input left bytes → IsAtEnd left → P bytes → IfSome input P
  ends_known P None left bytes consumed end p = tt
  ends_known P (Some all) None bytes consumed end p = absurd consumed
  ends_known P (Some all) (Some rest) bytes consumed end p = subst P (sym (consumed ∙ (ap (λ r. bytes ++ r) end ∙ append-nil bytes))) p

  module _ (input left start before : Option (List ℕ)) (old : Session) (at : HasReached rules input left start before old) where
    -- a block is read and answered
    pub reached_more : (after now : Option (List ℕ)) (block : List ℕ) (new : Session) → Consumes left after block → IsBetween rules (at.bytes ++ block) start now new
        → HasReached rules input after start now new
    reached_more after now block new read between = record {
      bytes = at.bytes ++ block;
      consumed = consumes_more input left after at.bytes block at.consumed read;
      between = between;
    }

    -- a read is made again
    pub reached_again : (after : Option (List ℕ)) → Keeps left after → HasReached rules input after start before old
    reached_again after kept = record { bytes = at.bytes; consumed = consumes_kept input left after at.bytes at.consumed kept; between = at.between }

    -- the run stops in a block
    pub reached_stop : (after now : Option (List ℕ)) (block : List ℕ) (error : RunError) → Consumes left after block → ((more : List ℕ) → HasStopped rules ((at.bytes ++ block) ++ more) start now error)
        → IfSome input (λ all. HasStopped rules all start now error)
    reached_stop after now block error read stopped =
        stops_known input after start now (at.bytes ++ block) error (consumes_more input left after at.bytes block at.consumed read) stopped

    -- a read failed
    pub reached_fail : (after : Option (List ℕ)) → Keeps left after → IfSome input (λ all. HasStopped rules all start before Read)
    reached_fail after kept =
        stops_known input after start before at.bytes Read (consumes_kept input left after at.bytes at.consumed kept) (λ more. record {
          text = at.between.text;
          written = at.between.written;
          prints = subst (PrintsUntil rules Read (at.bytes ++ more)) (ap (λ t. at.between.text ++ t) at.between.none_gathered ∙ append-nil at.between.text)
              (taken_so_far rules at.bytes at.between.text old at.between.taken more);
        })

    -- the input has ended, and its last line was answered or not
    pub reached_end : (after now : Option (List ℕ)) (result : Result Bool RunError) → Consumes left after [] → IsAtEnd after
        → MatchResult result (HasPrinted rules at.bytes start now) (HasStopped rules at.bytes start now)
        → IfSome input (λ all. MatchResult result (HasPrinted rules all start now) (HasStopped rules all start now))
    reached_end after now result read end answered =
        ends_known (λ all. MatchResult result (HasPrinted rules all start now) (HasStopped rules all start now)) input after at.bytes
        (subst (Consumes input after) (append-nil at.bytes) (consumes_more input left after at.bytes [] at.consumed read)) end answered

  -- what `run` says of an error
  pub cut_known : (input start now : Option (List ℕ)) (result : Result Bool RunError)
      → IfSome input (λ bytes. MatchResult result (HasPrinted rules bytes start now) (HasStopped rules bytes start now))
      → IfErr result (λ error. IfSome input (λ bytes. (text : List ℕ) × PrintsUntil rules error bytes text × PrintsFirst rules bytes text × Appends start now text))
  cut_known input start now (Ok readable) known = tt
  cut_known None start now (Err error) known = tt
  cut_known (Some bytes) start now (Err error) known = (known.text, known.prints, prints_first rules error bytes known.text known.prints, known.written)

  -- the run stops before it began
  pub none_known : (input start : Option (List ℕ)) → IfSome input (λ bytes. (text : List ℕ) × PrintsUntil rules Memory bytes text × PrintsFirst rules bytes text × Appends start start text)
  none_known None start = tt
  none_known (Some bytes) start = ([], until_none rules bytes, prints_first rules Memory bytes [] (until_none rules bytes), appends_none start)

  -- an error that is passed on
  pub passed_on : (input start now : Option (List ℕ)) (result : Result Bool RunError) (error found : RunError) → result ≡ Err found → found ≡ error
      → IfSome input (λ bytes. HasStopped rules bytes start now error)
      → IfSome input (λ bytes. MatchResult result (HasPrinted rules bytes start now) (HasStopped rules bytes start now))
  passed_on input start now result error found is same cut =
      subst (λ r. IfSome input (λ bytes. MatchResult r (HasPrinted rules bytes start now) (HasStopped rules bytes start now))) (sym is)
      (subst (λ e. IfSome input (λ bytes. HasStopped rules bytes start now e)) (sym same) cut)
