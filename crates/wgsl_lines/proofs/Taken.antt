-- The lines of an input that comes piece by piece, and a step of a run: bytes taken, a line answered, answers written. An input prints
-- at most one text, and what a run has printed when it stops is a beginning of it.
use Rattle.wgsl_lines.proofs.Common.{◌≡◌, ◌≢◌, ◌∙◌, ℕ, eqb as nat_eq, Bool, true, false, All, List, [], ◌∷◌, ◌++◌, ap, append_assoc, refl, sym, append-nil}
use Rattle.wgsl_lines.proofs.Common.{All-head, All-tail, lines_of, Ends, zero, suc, ◌<◌, ◌≤◌, nat_le, ◌&&◌, arith, length, length-append, length-take, subst}
use Rattle.wgsl_lines.proofs.Common.{take, take_all, list_all, long_line, one_line_reply, ReplyText, unreadable, IsReplyToLine, is_readable, next_number}
use Rattle.wgsl_lines.proofs.Common.{printed, printed_from, number_after, RuleSet, string_bytes, All-append, All-nil, AllZip, Write, Memory, Session, Prints}
use Rattle.wgsl_lines.proofs.Common.{PrintsLines, PrintsUntil, PrintsUpTo, AnswersLine, HasTaken, IsAtStart, StopsAfter, take-append_seam, RunError, Read}
use Rattle.wgsl_lines.proofs.Common.{PrintsFirst}
use Rattle.std.proofs.lemmas.Bool.{ne_eqb, leb-true, leb-false}
use Rattle.wgsl_replies.specs.words.Reader.{into_first}
use Rattle.std.proofs.lemmas.List.Folds.{list_all-append}
use Rattle.std.proofs.lemmas.Slice.Zip.{all_zipped_more}
use Rattle.std.specs.Io.{StartsWith}

abbrev pub NoLineFeed : List ℕ → Type 0
NoLineFeed bytes = All (λ byte. byte ≢ 10) bytes

head : (byte : ℕ) (bytes : List ℕ) → NoLineFeed (byte ∷ bytes) → nat_eq byte 10 ≡ false
head byte bytes all = ne_eqb byte 10 (All-head (λ b. b ≢ 10) byte bytes all)

tail : (byte : ℕ) (bytes : List ℕ) → NoLineFeed (byte ∷ bytes) → NoLineFeed bytes
tail byte bytes all = All-tail (λ b. b ≢ 10) byte bytes all

-- a line, its line feed, and more
pub lines-line : (line more : List ℕ) → NoLineFeed line → lines_of (line ++ 10 ∷ more) ≡ line ∷ lines_of more
lines-line [] more all = refl
lines-line (byte ∷ line) more all = rw (head byte line all) (ap (into_first byte) (lines-line line more (tail byte line all)))

-- the last line
pub lines-last : (line : List ℕ) → NoLineFeed line → lines_of line ≡ line ∷ []
lines-last [] all = refl
lines-last (byte ∷ line) all = rw (head byte line all) (ap (into_first byte) (lines-last line (tail byte line all)))

first_some : (byte : ℕ) (lines : List (List ℕ)) → into_first byte lines ≢ []
first_some byte [] none = absurd (cc none)
first_some byte (line ∷ lines) none = absurd (cc none)

-- every input has a line
pub lines-some : (bytes : List ℕ) → lines_of bytes ≢ []
lines-some [] none = absurd (cc none)
lines-some (byte ∷ bytes) none = test (nat_eq byte 10) refl
  where
    test : (v : Bool) → nat_eq byte 10 ≡ v → ⊥
    test true e = let some : [] ∷ lines_of bytes ≡ [] = rw e at none in absurd (cc some)
    test false e = let some : into_first byte (lines_of bytes) ≡ [] = rw e at none in first_some byte (lines_of bytes) some

-- before the first byte
pub ends_none : Ends [] [] []
ends_none = λ more. refl

-- more bytes of the line
pub ends_more : (bytes begun more : List ℕ) (ended : List (List ℕ)) → Ends bytes ended begun → Ends (bytes ++ more) ended (begun ++ more)
ends_more bytes begun more ended ends = λ rest.
    ap lines_of (append_assoc bytes more rest) ∙ (ends (more ++ rest) ∙ ap (λ b. ended ++ lines_of b) (sym (append_assoc begun more rest)))

-- the line feed
pub ends_line : (bytes begun : List ℕ) (ended : List (List ℕ)) → Ends bytes ended begun → NoLineFeed begun → Ends (bytes ++ 10 ∷ []) (ended ++ begun ∷ []) []
ends_line bytes begun ended ends all = λ rest.
    ap lines_of (append_assoc bytes (10 ∷ []) rest) ∙ (ends (10 ∷ rest) ∙ (ap (λ ls. ended ++ ls) (lines-line begun rest all) ∙ sym (append_assoc ended (begun ∷ []) (lines_of rest))))

-- the end of the input
pub ends_last : (bytes begun : List ℕ) (ended : List (List ℕ)) → Ends bytes ended begun → NoLineFeed begun → lines_of bytes ≡ ended ++ begun ∷ []
ends_last bytes begun ended ends all =
    ap lines_of (sym (append-nil bytes)) ∙ (ends [] ∙ ap (λ ls. ended ++ ls) (ap lines_of (append-nil begun) ∙ lines-last begun all))

module _ (rules : RuleSet) where
  -- of the first bytes of a line 4097 decide the reply, whatever comes after them
  pub of_cut_first : (line more : List ℕ) (reply : ReplyText) → IsReplyToLine rules (take 4097 line ++ more) reply → IsReplyToLine rules (line ++ more) reply
  of_cut_first line more reply is = test (nat_le (length line) 4096) refl
    where
      test : (v : Bool) → nat_le (length line) 4096 ≡ v → IsReplyToLine rules (line ++ more) reply
      test true e =
          let short : length line ≤ 4096 = leb-true (length line) 4096 e in
          subst (λ bytes. IsReplyToLine rules (bytes ++ more) reply) (take_all 4097 line (omega (arith, short))) is
      test false e =
          let long : 4096 < length line = leb-false (length line) 4096 e in
          let whole : 4096 < length (line ++ more) = omega (arith, long, length-append line more) in
          let cut : 4096 < length (take 4097 line ++ more) = omega (arith, long, length-take 4097 line, length-append (take 4097 line) more) in
          subst (IsReplyToLine rules (line ++ more)) (sym ((one_line_reply rules (take 4097 line ++ more)).once reply unreadable is (long_line rules (take 4097 line ++ more) cut))) (long_line rules (line ++ more) whole)

  -- of a line the first 4097 bytes decide the reply
  pub of_cut : (line : List ℕ) (reply : ReplyText) → IsReplyToLine rules (take 4097 line) reply → IsReplyToLine rules line reply
  of_cut line reply is =
      subst (λ bytes. IsReplyToLine rules bytes reply) (append-nil line)
      (of_cut_first line [] reply (subst (λ bytes. IsReplyToLine rules bytes reply) (sym (append-nil (take 4097 line))) is))

-- a beginning of a line that is cut, and more of it
pub take-cut : (n : ℕ) (xs ys : List ℕ) → take n (take n xs ++ ys) ≡ take n (xs ++ ys)
take-cut zero xs ys = refl
take-cut (suc n) [] ys = refl
take-cut (suc n) (x ∷ xs) ys = ap (λ zs. x ∷ zs) (take-cut n xs ys)

and_true : (b : Bool) → (b && true) ≡ b
and_true true = refl
and_true false = refl

pub printed-append : (n : ℕ) (replies more : List ReplyText) → printed_from n (replies ++ more) ≡ printed_from n replies ++ printed_from (number_after n replies) more
printed-append n [] more = refl
printed-append n (one ∷ replies) more =
    ap (λ text. printed n one ++ text) (printed-append (next_number n) replies more) ∙ sym (append_assoc (printed n one) _ _)

pub printed-push : (n : ℕ) (replies : List ReplyText) (reply : ReplyText) → printed_from n (replies ++ reply ∷ []) ≡ printed_from n replies ++ printed (number_after n replies) reply
printed-push n replies reply =
    printed-append n replies (reply ∷ []) ∙ ap (λ text. printed_from n replies ++ text) (append-nil (printed (number_after n replies) reply))

pub number-push : (n : ℕ) (replies : List ReplyText) (reply : ReplyText) → number_after n (replies ++ reply ∷ []) ≡ next_number (number_after n replies)
number-push n [] reply = refl
number-push n (one ∷ replies) reply = number-push (next_number n) replies reply

pub readable-push : (replies : List ReplyText) (reply : ReplyText) → list_all is_readable (replies ++ reply ∷ []) ≡ (list_all is_readable replies && is_readable reply)
readable-push replies reply =
    list_all-append is_readable replies (reply ∷ []) ∙ ap (λ b. list_all is_readable replies && b) (and_true (is_readable reply))

-- of the block some bytes are taken, and the rest is left
pub record TakesPart (rules : RuleSet) (bytes before block rest : List ℕ) (session : Session) : Type 0 where
  pub part : List ℕ
  pub block_is : block ≡ part ++ rest
  pub taken : HasTaken rules (bytes ++ part) before session

-- the line goes on by these bytes, and all else stays
pub record IsExtended (more : List ℕ) (old new : Session) : Type 0 where
  pub kept : new.line.bytes.items ≡ take 4097 (old.line.bytes.items ++ more)
  pub number : new.line.number ≡ old.line.number
  pub answers : string_bytes new.answers ≡ string_bytes old.answers
  pub all_readable : new.all_readable ≡ old.all_readable

module _ (rules : RuleSet) where
  -- before the first byte
  pub taken_none : (session : Session) → IsAtStart session → HasTaken rules [] [] session
  taken_none session start = record {
    ended = [];
    begun = [];
    lines = ends_none;
    no_line_feed = All-nil (λ byte. byte ≢ 10);
    replies = [];
    each = tt;
    answers = start.no_answers;
    all_readable = start.all_readable;
    kept = start.no_bytes ∙ sym (take_all 4097 [] (omega arith));
    number = start.first_line;
  }

  -- more bytes of the line
  pub taken_more : (bytes before more : List ℕ) (old new : Session) → HasTaken rules bytes before old → NoLineFeed more
      → new.line.bytes.items ≡ take 4097 (old.line.bytes.items ++ more) → new.line.number ≡ old.line.number
      → string_bytes new.answers ≡ string_bytes old.answers → new.all_readable ≡ old.all_readable → HasTaken rules (bytes ++ more) before new
  taken_more bytes before more old new taken all kept number answers readable = record {
    ended = taken.ended;
    begun = taken.begun ++ more;
    lines = ends_more bytes taken.begun more taken.ended taken.lines;
    no_line_feed = All-append (λ byte. byte ≢ 10) taken.begun more taken.no_line_feed all;
    replies = taken.replies;
    each = taken.each;
    answers = ap (λ text. before ++ text) answers ∙ taken.answers;
    all_readable = readable ∙ taken.all_readable;
    kept = kept ∙ (ap (λ line. take 4097 (line ++ more)) taken.kept ∙ take-cut 4097 taken.begun more);
    number = number ∙ taken.number;
  }

  -- the line that has begun ends with these bytes, and is answered
  module _ (bytes before : List ℕ) (old new : Session) (taken : HasTaken rules bytes before old) (end : List ℕ) (a : AnswersLine rules (old.line.bytes.items ++ end) old new) where
    is_reply : IsReplyToLine rules (taken.begun ++ end) a.reply
    is_reply = of_cut_first rules taken.begun end a.reply (subst (λ begun. IsReplyToLine rules (begun ++ end) a.reply) taken.kept a.is_reply)

    each_more : AllZip (IsReplyToLine rules) (taken.ended ++ (taken.begun ++ end) ∷ []) (taken.replies ++ a.reply ∷ [])
    each_more = all_zipped_more (IsReplyToLine rules) taken.ended taken.replies (taken.begun ++ end) a.reply taken.each is_reply

    no_feed : NoLineFeed end → NoLineFeed (taken.begun ++ end)
    no_feed all = All-append (λ byte. byte ≢ 10) taken.begun end taken.no_line_feed all

    text_more : before ++ string_bytes new.answers ≡ printed_from 1 (taken.replies ++ a.reply ∷ [])
    text_more =
        let one = printed old.line.number a.reply in
        ap (λ t. before ++ t) a.answers ∙ (sym (append_assoc before (string_bytes old.answers) one) ∙ (ap (λ t. t ++ one) taken.answers
        ∙ (ap (λ n. printed_from 1 taken.replies ++ printed n a.reply) taken.number ∙ sym (printed-push 1 taken.replies a.reply))))

    readable_more : new.all_readable ≡ list_all is_readable (taken.replies ++ a.reply ∷ [])
    readable_more = a.all_readable ∙ (ap (λ b. b && is_readable a.reply) taken.all_readable ∙ sym (readable-push taken.replies a.reply))

    -- its line feed is taken too
    pub taken_line : NoLineFeed end → new.line.bytes.items ≡ [] → new.line.number ≡ next_number old.line.number → HasTaken rules ((bytes ++ end) ++ 10 ∷ []) before new
    taken_line all empty number = record {
      ended = taken.ended ++ (taken.begun ++ end) ∷ [];
      begun = [];
      lines = ends_line (bytes ++ end) (taken.begun ++ end) taken.ended (ends_more bytes taken.begun end taken.ended taken.lines) (no_feed all);
      no_line_feed = All-nil (λ byte. byte ≢ 10);
      replies = taken.replies ++ a.reply ∷ [];
      each = each_more;
      answers = text_more;
      all_readable = readable_more;
      kept = empty ∙ sym (take_all 4097 [] (omega arith));
      number = number ∙ (ap next_number taken.number ∙ sym (number-push 1 taken.replies a.reply));
    }

    -- the input ends there
    pub taken_last : NoLineFeed end → Prints rules (bytes ++ end) (before ++ string_bytes new.answers) new.all_readable
    taken_last all = record {
      replies = taken.replies ++ a.reply ∷ [];
      each = subst (λ lines. AllZip (IsReplyToLine rules) lines (taken.replies ++ a.reply ∷ []))
          (sym (ends_last (bytes ++ end) (taken.begun ++ end) taken.ended (ends_more bytes taken.begun end taken.ended taken.lines) (no_feed all))) each_more;
      text_is = text_more;
      readable_is = readable_more;
    }

  -- what was answered so far is the text of the first lines
  pub taken_so_far : (bytes before : List ℕ) (session : Session) → HasTaken rules bytes before session → StopsAfter rules Memory bytes (before ++ string_bytes session.answers)
  taken_so_far bytes before session taken = λ more. (
    lines_of (taken.begun ++ more),
    record {
      first = taken.ended;
      lines = taken.lines more;
      readable = session.all_readable;
      prints = record { replies = taken.replies; each = taken.each; text_is = taken.answers; readable_is = taken.all_readable };
    },
    lines-some (taken.begun ++ more),
  )

  -- the same after more bytes
  pub stops_more : (bytes more text : List ℕ) → StopsAfter rules Memory bytes text → StopsAfter rules Memory (bytes ++ more) text
  stops_more bytes more text stops = λ rest. subst (λ b. PrintsUntil rules Memory b text) (sym (append_assoc bytes more rest)) (stops (more ++ rest))

  -- a beginning of the text of the first lines
  pub cut_of_first : (input text rest whole : List ℕ) → PrintsUntil rules Memory input whole → whole ≡ text ++ rest → whole ≢ [] → PrintsUntil rules Write input text
  cut_of_first input text rest whole until is some =
      (until.0, rest, subst (PrintsUpTo rules input until.0) is until.1, λ none. some (is ∙ none))

  -- a beginning of the text of all lines
  pub cut_of_all : (input text rest whole : List ℕ) (readable : Bool) → Prints rules input whole readable → whole ≡ text ++ rest → whole ≢ [] → PrintsUntil rules Write input text
  cut_of_all input text rest whole readable prints is some = (
    [],
    rest,
    record {
      first = lines_of input;
      lines = sym (append-nil (lines_of input));
      readable = readable;
      prints = subst (λ t. PrintsLines rules (lines_of input) t readable) is prints;
    },
    λ none. some (is ∙ none),
  )

  -- nothing is taken yet
  pub part_none : (bytes before block : List ℕ) (session : Session) → HasTaken rules bytes before session → TakesPart rules bytes before block block session
  part_none bytes before block session taken = record {
    part = [];
    block_is = refl;
    taken = subst (λ b. HasTaken rules b before session) (sym (append-nil bytes)) taken;
  }

  module _ (bytes before block rest : List ℕ) (old : Session) (part : TakesPart rules bytes before block rest old) where
    -- a line of the block is taken with its line feed, and answered
    pub part_line : (new : Session) (end after : List ℕ) → AnswersLine rules (old.line.bytes.items ++ end) old new → NoLineFeed end → rest ≡ end ++ 10 ∷ after
        → new.line.bytes.items ≡ [] → new.line.number ≡ next_number old.line.number → TakesPart rules bytes before block after new
    part_line new end after a all is empty number = record {
      part = part.part ++ (end ++ 10 ∷ []);
      block_is = part.block_is ∙ (ap (λ r. part.part ++ r) (is ∙ sym (append_assoc end (10 ∷ []) after)) ∙ sym (append_assoc part.part (end ++ 10 ∷ []) after));
      taken = subst (λ b. HasTaken rules b before new) (append_assoc (bytes ++ part.part) end (10 ∷ []) ∙ append_assoc bytes part.part (end ++ 10 ∷ []))
          (taken_line (bytes ++ part.part) before old new part.taken end a all empty number);
    }

    whole : (bytes ++ part.part) ++ rest ≡ bytes ++ block
    whole = append_assoc bytes part.part rest ∙ ap (λ b. bytes ++ b) (sym part.block_is)

    -- the rest of the block has no line feed
    pub part_last : (mid : Session) → NoLineFeed rest → IsExtended rest old mid → HasTaken rules (bytes ++ block) before mid
    part_last mid all e =
        subst (λ b. HasTaken rules b before mid) whole
        (taken_more (bytes ++ part.part) before rest old mid part.taken all e.kept e.number e.answers e.all_readable)

    -- out of memory in the rest of the block
    pub part_stops : (new : Session) → string_bytes new.answers ≡ string_bytes old.answers → StopsAfter rules Memory (bytes ++ block) (before ++ string_bytes new.answers)
    part_stops new same =
        subst (λ b. StopsAfter rules Memory b (before ++ string_bytes new.answers)) whole
        (subst (λ t. StopsAfter rules Memory ((bytes ++ part.part) ++ rest) (before ++ t)) (sym same)
        (stops_more (bytes ++ part.part) rest (before ++ string_bytes old.answers) (taken_so_far (bytes ++ part.part) before old part.taken)))

  -- no line is answered yet
  pub until_none : (input : List ℕ) → PrintsUntil rules Memory input []
  until_none input = (
    lines_of input,
    record { first = []; lines = refl; readable = true; prints = record { replies = []; each = tt; text_is = refl; readable_is = refl } },
    lines-some input,
  )

module _ (rules : RuleSet) where
  -- the replies to some lines, and to these and more
  more_replies : (first others : List (List ℕ)) (rs ss : List ReplyText) → AllZip (IsReplyToLine rules) first rs → AllZip (IsReplyToLine rules) (first ++ others) ss → (rest : List ReplyText) × (ss ≡ rs ++ rest)
  more_replies [] others [] ss p q = (ss, refl)
  more_replies [] others (r ∷ rs) ss p q = absurd p
  more_replies (line ∷ first) others [] ss p q = absurd p
  more_replies (line ∷ first) others (r ∷ rs) [] p q = absurd q
  more_replies (line ∷ first) others (r ∷ rs) (s ∷ ss) p q =
      let after = more_replies first others rs ss p.1 q.1 in
      (after.0, ap (λ x. x ∷ ss) ((one_line_reply rules line).once s r q.0 p.0) ∙ ap (λ xs. r ∷ xs) after.1)

  one_replies : (lines : List (List ℕ)) (rs ss : List ReplyText) → AllZip (IsReplyToLine rules) lines rs → AllZip (IsReplyToLine rules) lines ss → rs ≡ ss
  one_replies [] [] [] p q = refl
  one_replies [] [] (s ∷ ss) p q = absurd q
  one_replies [] (r ∷ rs) ss p q = absurd p
  one_replies (line ∷ lines) [] ss p q = absurd p
  one_replies (line ∷ lines) (r ∷ rs) [] p q = absurd q
  one_replies (line ∷ lines) (r ∷ rs) (s ∷ ss) p q = ap (λ x. x ∷ rs) ((one_line_reply rules line).once r s p.0 q.0) ∙ ap (λ xs. s ∷ xs) (one_replies lines rs ss p.1 q.1)

  pub one_text : (input a b : List ℕ) (x y : Bool) → Prints rules input a x → Prints rules input b y → (a ≡ b) × (x ≡ y)
  one_text input a b x y p q =
      let same = one_replies (lines_of input) p.replies q.replies p.each q.each in (
        p.text_is ∙ (ap (printed_from 1) same ∙ sym q.text_is),
        p.readable_is ∙ (ap (list_all is_readable) same ∙ sym q.readable_is),
      )

  -- the text is a beginning of the other
  abbrev Begins : List ℕ → List ℕ → Type 0
  Begins text whole = (rest : List ℕ) × (whole ≡ text ++ rest)

  starts : (text whole : List ℕ) → Begins text whole → StartsWith whole text
  starts text whole begins = ap (take (length text)) begins.1 ∙ take-append_seam text begins.0

  up_to_begins : (input text whole : List ℕ) (others : List (List ℕ)) (readable : Bool) → PrintsUpTo rules input others text → Prints rules input whole readable → Begins text whole
  up_to_begins input text whole others readable up_to prints =
      let first = up_to.prints in
      let after = more_replies up_to.first others first.replies prints.replies first.each (subst (λ lines. AllZip (IsReplyToLine rules) lines prints.replies) up_to.lines prints.each) in
      let rest = printed_from (number_after 1 first.replies) after.0 in
      (rest, prints.text_is ∙ (ap (printed_from 1) after.1 ∙ (printed-append 1 first.replies after.0 ∙ ap (λ t. t ++ rest) (sym first.text_is))))

  until_begins : (error : RunError) (input text whole : List ℕ) (readable : Bool) → PrintsUntil rules error input text → Prints rules input whole readable → Begins text whole
  until_begins Read input text whole readable until prints = up_to_begins input text whole until.0 readable until.1 prints
  until_begins Memory input text whole readable until prints = up_to_begins input text whole until.0 readable until.1 prints
  until_begins Write input text whole readable until prints =
      let begins = up_to_begins input (text ++ until.1) whole until.0 readable until.2 prints in
      (until.1 ++ begins.0, begins.1 ∙ append_assoc text until.1 begins.0)

  pub prints_first : (error : RunError) (input text : List ℕ) → PrintsUntil rules error input text → PrintsFirst rules input text
  prints_first error input text until = λ whole readable prints. starts text whole (until_begins error input text whole readable until prints)
