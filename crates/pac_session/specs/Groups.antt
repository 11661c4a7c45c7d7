-- Where requests are cut into groups. The transactions of a group are committed together, and the replies of a group are
-- held until then. The end of the input is a stop after the requests.
use Rattle.std.specs.Prelude.{ℕ, ◌+◌, ◌^◌, Bool, true, false, List, [], ◌∷◌, ◌++◌, length, nat_eq, nat_le, nat_lt, not, ◌&&◌, ◌||◌, if◌then◌else◌, Option, Some, None}
use Rattle.std.specs.List.{fold}
use Rattle.pac_ops.specs.declared.transaction.Txn.{Txn}
use Rattle.pac_entry.specs.declared.limits.TheConstants.{MAX_BODY_LEN}
use Rattle.pac_script.specs.Batches.{body_len}
use Rattle.pac_request.specs.declared.request.Request.{Request}
use Rattle.pac_request.specs.declared.request.Request.TheVariants as request
use Rattle.pac_request.specs.declared.request.Reply.{Reply}
use Rattle.pac_session.specs.Session.{Rules, SessionState, txn_of, ends, replies, committed, up_to_stop}

-- all requests of groups, in their order
abbrev pub all_requests : List (List Request) → List Request
all_requests [] = []
all_requests (group ∷ groups) = group ++ all_requests groups

-- groups that were closed, and the requests after them
pub record GroupCut : Type 0 where
  pub closed : List (List Request)
  pub rest : List Request

-- a flush, a save and a stop close the group that they are in
abbrev pub is_closing : Request → Bool
is_closing (request.Call call) = false
is_closing (request.AdHoc records) = false
is_closing request.Flush = true
is_closing (request.Show table key) = false
is_closing request.Save = true
is_closing request.Stop = true
is_closing (request.Refused fault) = false

-- the body of these transactions has no room for an entry more
abbrev pub lacks_room : List Txn → Option Txn → Bool
lacks_room txns None = false
lacks_room txns (Some txn) = nat_lt MAX_BODY_LEN (body_len (txns ++ txn ∷ []))

-- before a request the group is closed where its body has no room for the request's entry
abbrev pub room_made : Rules → SessionState → List Request → Request → GroupCut
room_made rules start group asked =
    if lacks_room (committed rules start group) (txn_of asked) then record { closed = group ∷ []; rest = [] } else record { closed = []; rest = group }

-- the request goes after these, which began at this state, and ends their group where it closes it, or where the group
-- has as many replies as it may hold
abbrev pub cut_with : Rules → SessionState → List Request → Request → GroupCut
cut_with rules start group asked =
    let all = group ++ asked ∷ [] in
    if is_closing asked || nat_le rules.most (length (replies rules start all)) then record { closed = all ∷ []; rest = [] } else record { closed = []; rest = all }

-- one cut after another
abbrev pub cut_after : GroupCut → GroupCut → GroupCut
cut_after one two = record { closed = one.closed ++ two.closed; rest = two.rest }

-- one request more, after a group that began at this state
abbrev pub cut_one : Rules → SessionState → List Request → Request → GroupCut
cut_one rules start group asked =
    let room = room_made rules start group asked in
    cut_after room (cut_with rules (ends rules start (all_requests room.closed)) room.rest asked)

-- one request more, after a cut of requests that began at this state
abbrev pub cut_on : Rules → SessionState → GroupCut → Request → GroupCut
cut_on rules start whole asked = cut_after whole (cut_one rules (ends rules start (all_requests whole.closed)) whole.rest asked)

-- the groups that closings cut off these requests
abbrev pub cut : Rules → SessionState → List Request → GroupCut
cut rules start requests = fold (cut_on rules start) (record { closed = []; rest = [] }) requests

-- ---- where a log stands between groups

-- the offset of its gate; how far the newest checkpoint reaches, which is one more than how many transactions it has, and 0 where
-- there is none; and the offset of the first gate of the segment that comes next
pub record LogSpot : Type 0 where
  pub place : ℕ
  pub reach : ℕ
  pub next : ℕ

-- the offset of the log's gate after transactions that are committed together; where there are none nothing is written
abbrev pub place_after_group : ℕ → List Txn → ℕ
place_after_group place [] = place
place_after_group place (txn ∷ txns) = place + (1 + body_len (txn ∷ txns))

-- where the log stands after them
abbrev pub spot_committed : LogSpot → List Txn → LogSpot
spot_committed spot txns = record spot { place = place_after_group spot.place txns }

-- Where the newest checkpoint reaches so far, a save after that many transactions writes another one: the newest has fewer, and the
-- next segment may begin after so many.
abbrev pub saves_anew : ℕ → ℕ → Bool
saves_anew reach number = not (nat_eq reach (number + 1)) && nat_le number (2 ^ 62)

-- where the log stands after a save: where it writes a checkpoint, at the first gate of the segment that this begins
abbrev pub spot_saved : LogSpot → ℕ → LogSpot
spot_saved spot number = if saves_anew spot.reach number then record spot { place = spot.next; reach = number + 1 } else spot

abbrev pub is_save : Request → Bool
is_save (request.Call call) = false
is_save (request.AdHoc records) = false
is_save request.Flush = false
is_save (request.Show table key) = false
is_save request.Save = true
is_save request.Stop = false
is_save (request.Refused fault) = false

-- a save is among the requests
abbrev pub has_save : List Request → Bool
has_save [] = false
has_save (asked ∷ more) = is_save asked || has_save more

-- ---- what groups are

-- a group: its requests, the transactions that it commits, its replies, how many transactions there are with its own, and where
-- the log stands before it
pub record Group : Type 0 where
  pub requests : List Request
  pub txns : List Txn
  pub replies : List Reply
  pub number : ℕ
  pub spot : LogSpot

-- a list of requests as a group that begins at this state, the log standing here
abbrev pub group_of : Rules → LogSpot → SessionState → List Request → Group
group_of rules spot start requests = record {
  requests = requests;
  txns = committed rules start requests;
  replies = replies rules start requests;
  number = (ends rules start requests).number;
  spot = spot;
}

-- where the log stands after a group: its transactions are committed, and then a save that ends it is made
abbrev pub spot_after_group : Group → LogSpot
spot_after_group group = if has_save group.requests then spot_saved (spot_committed group.spot group.txns) group.number else spot_committed group.spot group.txns

-- lists of requests as groups, one after another, where the first begins at this state, the log standing here
abbrev pub described : Rules → LogSpot → SessionState → List (List Request) → List Group
described rules spot start [] = []
described rules spot start (group ∷ more) = group_of rules spot start group ∷ described rules (spot_after_group (group_of rules spot start group)) (ends rules start group) more

-- where the log stands after groups, where it stood here before them
abbrev pub spot_after : LogSpot → List Group → LogSpot
spot_after spot [] = spot
spot_after spot (group ∷ more) = spot_after (spot_after_group group) more

-- the groups that closings cut off requests, up to the first stop; requests after the last closing are no group
abbrev pub groups : Rules → LogSpot → SessionState → List Request → List Group
groups rules spot start requests = described rules spot start (cut rules start (up_to_stop requests)).closed

-- the replies of groups, in their order
abbrev pub all_replies : List Group → List Reply
all_replies [] = []
all_replies (group ∷ more) = group.replies ++ all_replies more
