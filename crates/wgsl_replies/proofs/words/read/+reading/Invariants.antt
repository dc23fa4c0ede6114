use Rattle.wgsl_replies.proofs.Common.{◌≡◌, ◌<◌, ◌≤◌, ◌+◌, ◌-◌, ◌*◌, Some, length, map, take, member_view, scalar_named, times, in_layer, member_at, type_at, type_from}
use Rattle.std.proofs.Common.{IfSome}
use denote.Text.{Utf8}
use denote.Shadow.{shadow}
use Rattle.wgsl_replies.proofs.Reading.{in_front, in_layers}
use Rattle.wgsl_replies.proofs.words.read.+reading.Given as goal

-- The words that are left: what takes none before it calls another counts one more than that.
abbrev pub decreases-read_type : goal.decreases-read_type
decreases-read_type l = 8 * length l.words.now

abbrev pub decreases-read_type_at : goal.decreases-read_type_at
decreases-read_type_at l = 8 * length l.words.now + 5

abbrev pub decreases-read_other : goal.decreases-read_other
decreases-read_other l = 8 * length l.words.now + 4

abbrev pub decreases-read_inside : goal.decreases-read_inside
decreases-read_inside l = 8 * length l.words.now + 3

abbrev pub decreases-read_layers : goal.decreases-read_layers
decreases-read_layers l = 8 * length l.words.now + 6

abbrev pub decreases-read_struct : goal.decreases-read_struct
decreases-read_struct l = 8 * length l.words.now + 2

abbrev pub decreases-read_member : goal.decreases-read_member
decreases-read_member l = 8 * length l.words.now + 1

-- the members that were read, and those that are to be
abbrev pub invariant-read_struct-loop : goal.invariant-read_struct-loop
invariant-read_struct-loop l =
    (length l.words < length l.fn.words) × (times l.count (member_at type_at) l.initial.words ≡ in_front (map member_view l.members.items) (times (l.count - l.counter) (member_at type_at) l.words))

-- the layers that were read, and the word after them
abbrev pub invariant-read_layers-loop-layer : goal.invariant-read_layers-loop-layer
invariant-read_layers-loop-layer l =
    shadow (Utf8 l.word) × (length l.words ≤ length l.fn.words) × (l.count ≤ 4) × (length l.layers ≡ 4)
    × (in_layer l.fn.outermost (type_from type_at l.first) l.fn.words ≡ in_layers (take l.count l.layers) (type_from type_at l.word l.words))
    × IfSome l.scalar (λ s. scalar_named l.word ≡ Some s)

abbrev pub decreases-read_layers-loop-layer : goal.decreases-read_layers-loop-layer
decreases-read_layers-loop-layer l = length l.words
