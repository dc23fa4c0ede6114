-- A line has one reply, if every request has an answer.
use Rattle.wgsl_replies.proofs.Common.{◌≡◌, ℕ, List, [], ◌∷◌, Words, words_of}
use Rattle.wgsl_requests.specs.Replies.{ReplyText}
use Rattle.wgsl_requests.proofs.OneAnswer.{HasOne, known, EachAnswered, one_of_line, one_reply_of}
use Rattle.wgsl_replies.specs.words.Requests.{IsReplyToLine, IsReplyToWords, request_of}

one_to_words : (words : Words) → HasOne EachAnswered (IsReplyToWords words)
one_to_words [] = known _
one_to_words (word ∷ words) = one_reply_of (request_of (word ∷ words))

pub one_to_line : (bytes : List ℕ) → HasOne EachAnswered (IsReplyToLine bytes)
one_to_line bytes = one_of_line (one_to_words (words_of bytes)) bytes

pub one_line_reply : (bytes : List ℕ) (a b : ReplyText) → IsReplyToLine bytes a → IsReplyToLine bytes b → a ≡ b
one_line_reply bytes = (one_to_line bytes).once
