-- Groups are a cut of the requests, and say what the session replies.
use Rattle.std.proofs.Common.{◌≡◌, ℕ, Bool, true, false, List, [], ◌∷◌, ◌++◌, refl, sym, ap, ◌∙◌, append_assoc}
use Rattle.std.specs.Prelude.{◌||◌, nat_le, if◌then◌else◌, length}
use Rattle.std.specs.List.{fold}
use Rattle.std.proofs.lemmas.List.{append-nil}
use Rattle.pac_request.specs.declared.request.Request.{Request}
use Rattle.pac_request.specs.declared.request.Reply.{Reply}
use Rattle.pac_session.specs.Session.{Rules, SessionState, txn_of, ends, replies, committed}
use Rattle.pac_session.specs.Groups.{GroupCut, all_requests, is_closing, lacks_room, room_made, cut_with, LogSpot, cut_after, cut_one, cut_on, cut, described, group_of, has_save, is_save, spot_after_group, all_replies}
use Rattle.pac_session.proofs.SessionLemmas.{replies-append}

pub joined-append : (xs ys : List (List Request)) → all_requests (xs ++ ys) ≡ all_requests xs ++ all_requests ys
joined-append [] ys = refl
joined-append (x ∷ xs) ys = ap (λ (l : List Request). x ++ l) (joined-append xs ys) ∙ sym (append_assoc x (all_requests xs) (all_requests ys))

-- all requests of a cut
abbrev pub whole : GroupCut → List Request
whole one = all_requests one.closed ++ one.rest

-- what is closed, or left open, is the group
choice : (b : Bool) (group : List Request) → whole (if b then record { closed = group ∷ []; rest = [] } else record { closed = []; rest = group }) ≡ group
choice true group = append-nil (group ++ []) ∙ append-nil group
choice false group = refl

whole-room : (rules : Rules) (start : SessionState) (group : List Request) (asked : Request) → whole (room_made rules start group asked) ≡ group
whole-room rules start group asked = choice (lacks_room (committed rules start group) (txn_of asked)) group

whole-taken : (rules : Rules) (start : SessionState) (group : List Request) (asked : Request) → whole (cut_with rules start group asked) ≡ group ++ asked ∷ []
whole-taken rules start group asked = choice (is_closing asked || nat_le rules.most (length (replies rules start (group ++ asked ∷ [])))) (group ++ asked ∷ [])

-- a cut whose rest is cut further
whole-after : (one two : GroupCut) (more : List Request) → whole two ≡ one.rest ++ more → whole (cut_after one two) ≡ whole one ++ more
whole-after one two more is =
    ap (λ (l : List Request). l ++ two.rest) (joined-append one.closed two.closed)
    ∙ append_assoc (all_requests one.closed) (all_requests two.closed) two.rest
    ∙ ap (λ (l : List Request). all_requests one.closed ++ l) is
    ∙ sym (append_assoc (all_requests one.closed) one.rest more)

whole-one : (rules : Rules) (start : SessionState) (group : List Request) (asked : Request) → whole (cut_one rules start group asked) ≡ group ++ asked ∷ []
whole-one rules start group asked =
    let room = room_made rules start group asked in
    whole-after room (cut_with rules (ends rules start (all_requests room.closed)) room.rest asked) (asked ∷ []) (whole-taken rules (ends rules start (all_requests room.closed)) room.rest asked)
    ∙ ap (λ (l : List Request). l ++ asked ∷ []) (whole-room rules start group asked)

whole-more : (rules : Rules) (start : SessionState) (so_far : GroupCut) (asked : Request) → whole (cut_on rules start so_far asked) ≡ whole so_far ++ asked ∷ []
whole-more rules start so_far asked =
    whole-after so_far (cut_one rules (ends rules start (all_requests so_far.closed)) so_far.rest asked) (asked ∷ []) (whole-one rules (ends rules start (all_requests so_far.closed)) so_far.rest asked)

whole-fold : (rules : Rules) (start : SessionState) (so_far : GroupCut) (requests : List Request) → whole (fold (cut_on rules start) so_far requests) ≡ whole so_far ++ requests
whole-fold rules start so_far [] = sym (append-nil (whole so_far))
whole-fold rules start so_far (asked ∷ more) =
    whole-fold rules start (cut_on rules start so_far asked) more
    ∙ ap (λ (l : List Request). l ++ more) (whole-more rules start so_far asked)
    ∙ append_assoc (whole so_far) (asked ∷ []) more

pub whole-cut : (rules : Rules) (start : SessionState) (requests : List Request) → whole (cut rules start requests) ≡ requests
whole-cut rules start requests = whole-fold rules start (record { closed = []; rest = [] }) requests

pub described-replies : (rules : Rules) (spot : LogSpot) (start : SessionState) (groups : List (List Request)) → all_replies (described rules spot start groups) ≡ replies rules start (all_requests groups)
described-replies rules spot start [] = refl
described-replies rules spot start (group ∷ more) =
    ap (λ (l : List Reply). replies rules start group ++ l) (described-replies rules (spot_after_group (group_of rules spot start group)) (ends rules start group) more)
    ∙ sym (replies-append rules start group (all_requests more))

-- a save is among the first requests, or among the others
pub has_save-append : (xs ys : List Request) → has_save (xs ++ ys) ≡ (has_save xs || has_save ys)
has_save-append [] ys = refl
has_save-append (x ∷ xs) ys = go (is_save x) (has_save-append xs ys)
  where
    go : (b : Bool) → has_save (xs ++ ys) ≡ (has_save xs || has_save ys) → (b || has_save (xs ++ ys)) ≡ ((b || has_save xs) || has_save ys)
    go true rest = refl
    go false rest = rest
