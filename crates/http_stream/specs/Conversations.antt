-- What is answered on a connection that carries several requests: each by one step of an answerer, in order.
use Rattle.std.specs.Prelude.{◌≡◌, ◌≤◌, ◌<◌, ◌⊎◌, ◌||◌, ℕ, suc, ◌+◌, ◌*◌, Bool, true, false, List, [], ◌∷◌, ◌++◌, length, take, codes, nat_eq, Option, IfSome, Result, Ok, Err, if◌then◌else◌}
use Rattle.fed_ports.specs.Bytes.{Appends}
use Rattle.fed_ports.specs.Lists.{Gave}
use Rattle.http_messages.specs.declared.request.Incoming.{Incoming}
use Rattle.http_messages.specs.declared.request.Incoming.TheVariants.{Asked, NotARequest}
use Rattle.http_messages.specs.declared.response.Response.{Response}
use Rattle.http_messages.specs.Cuts.{IsNoStreamRequest, StreamText}
use Rattle.http_messages.specs.Requests.{EndsEarly, request_limit}
use Rattle.http_messages.specs.Responses.{ResponseText, SaidText, out_of_memory}
use Rattle.http_stream.specs.Cuttings.{ReadCause, WriteCause}
use Rattle.http_stream.specs.declared.fault.StreamFault.{StreamFault}
use Rattle.http_stream.specs.declared.fault.StreamFault.TheVariants.{ReadFault, WriteFault, Ended, Memory}

-- what a connection and an answerer show at one moment: what is left to read and what was given, where the peer tells them, how often each
-- side of it failed, and how the answerer stands
pub record StreamAt (S : Type 0) : Type 0 where
  pub left : Option (List ℕ)
  pub held : Option (List ℕ)
  pub read_faults : ℕ
  pub write_faults : ℕ
  pub at : S

abbrev pub stream_at : {S : Type 0} → Option (List ℕ) → Option (List ℕ) → ℕ → ℕ → S → StreamAt S
stream_at left held read_faults write_faults at = record { left = left; held = held; read_faults = read_faults; write_faults = write_faults; at = at }

-- where a conversation stands: how many requests may still be answered, the bytes in which they come, how the answerer stands, and what was
-- written so far
pub record Point (S : Type 0) : Type 0 where
  pub left : ℕ
  pub bytes : List ℕ
  pub at : S
  pub said : List ℕ

abbrev pub point : {S : Type 0} → ℕ → List ℕ → S → List ℕ → Point S
point left bytes at said = record { left = left; bytes = bytes; at = at; said = said }

-- the bytes begin with this request, or aren't one; whether it is the last to be answered, and what stands behind it
abbrev pub Comes : ℕ → List ℕ → Incoming → Bool → List ℕ → Type 0
Comes left x (Asked r) last rest = (text : List ℕ) × (closes : Bool) × (x ≡ text ++ rest) × StreamText text r closes × (last ≡ (closes || nat_eq left 1))
Comes left x NotARequest last rest = IsNoStreamRequest x × (last ≡ true) × (rest ≡ [])

-- what a response says of its connection
abbrev pub connection_word : Bool → List ℕ
connection_word last = if last then codes "close" else codes "keep-alive"

module _ {S : Type 0} (step : S → Incoming → Response → S → Type 0) where
  -- one request was read and answered by one step, and the text of the response stands behind what was written before
  pub record Answers (last : Bool) (p : Point S) (asked : Incoming) (q : Point S) : Type 0 where
    pub comes : Comes p.left p.bytes asked last q.bytes
    pub left : p.left ≡ suc q.left
    pub response : Response
    pub steps : step p.at asked response q.at
    pub reply : List ℕ
    pub is_reply : SaidText (connection_word last) reply response
    pub said : q.said ≡ p.said ++ reply

  -- these were answered one after the other, and none of them is the last
  abbrev pub Goes : Point S → List Incoming → Point S → Type 0
  Goes p [] q = q ≡ p
  Goes p (asked ∷ more) q = (m : Point S) × Answers false p asked m × Goes m more q

module _ {S : Type 0} (step : S → Incoming → Response → S → Type 0) (gives_up : S → Incoming → S → Type 0) where
  -- the answer to a request: by a step, or that memory was wanting, which ends the connection
  abbrev pub Makes : Bool → S → Incoming → List ℕ → S → Type 0
  Makes last old asked reply new =
      ((response : Response) × step old asked response new × SaidText (connection_word last) reply response)
      ⊎ (gives_up old asked new × ResponseText reply out_of_memory)

  -- a request was read, and a prefix of the answer to it was written
  pub record Breaks (p : Point S) (asked : Incoming) (q : Point S) : Type 0 where
    pub last : Bool
    pub comes : Comes p.left p.bytes asked last q.bytes
    pub reply : List ℕ
    pub makes : Makes last p.at asked reply q.at
    pub count : ℕ
    pub part : count ≤ length reply
    pub said : q.said ≡ p.said ++ take count reply

  -- a request was read, for which memory was wanting: for writing the response, and nothing of it was written, or for making it, and this
  -- was said
  pub record Wants (p : Point S) (asked : Incoming) (q : Point S) : Type 0 where
    pub last : Bool
    pub comes : Comes p.left p.bytes asked last q.bytes
    pub how : ((response : Response) × step p.at asked response q.at × (q.said ≡ p.said))
        ⊎ (gives_up p.at asked q.at × ((reply : List ℕ) × ResponseText reply out_of_memory × (q.said ≡ p.said ++ reply)))

  -- reading failed: what was taken of the bytes behind the requests that were answered, up to those that weren't, ends early, so that no
  -- request stood there yet
  pub record FailsEarly (behind : List ℕ) (p : Point S) : Type 0 where
    pub got : List ℕ
    pub bytes : p.bytes ≡ got ++ behind
    pub early : EndsEarly got

  -- how it breaks off behind the requests that were answered: with nothing more done where reading failed or the bytes end inside a request
  abbrev pub Faults : List ℕ → Point S → StreamFault → Point S → Type 0
  Faults behind p ReadFault q = (q ≡ p) × FailsEarly behind p
  Faults behind p Ended q = (q ≡ p) × EndsEarly p.bytes × (0 < length p.bytes)
  Faults behind p WriteFault q = (asked : Incoming) × Breaks p asked q
  Faults behind p Memory q = (q ≡ p) ⊎ ((asked : Incoming) × Wants p asked q)

  -- how it ends behind so many requests that were answered: the bytes end there, or one more was answered, the last; or it breaks off
  abbrev pub Ends : List ℕ → ℕ → Point S → Result ℕ StreamFault → Point S → Type 0
  Ends behind n p (Ok m) q = ((m ≡ n) × (q ≡ p) × (p.bytes ≡ [])) ⊎ ((m ≡ suc n) × ((asked : Incoming) × Answers step true p asked q))
  Ends behind n p (Err fault) q = Faults behind p fault q

  -- the requests of a connection, at most so many, were answered one after the other
  pub record Serves (most : ℕ) (before now : StreamAt S) (result : Result ℕ StreamFault) : Type 0 where
    -- the bytes that were taken, and those behind them that weren't, where the peer tells them
    pub taken : List ℕ
    pub behind : List ℕ
    pub gave : Gave before.left taken now.left
    pub told : IfSome now.left (λ rest. rest ≡ behind)
    pub few : length taken ≤ most * request_limit
    -- those that were answered behind which the connection goes on, and how it stands then
    pub answered : List Incoming
    pub reached : Point S
    pub goes : Goes step (point most (taken ++ behind) before.at []) answered reached
    -- how it ends
    pub gone : Point S
    pub ends : Ends behind (length answered) reached result gone
    pub at : gone.at ≡ now.at
    pub held : Appends before.held now.held gone.said
    pub read_cause : ReadCause before.read_faults now.read_faults result
    pub write_cause : WriteCause before.write_faults now.write_faults result

  -- one request was answered, or why not: what was written, and how the answerer stands
  abbrev pub AnswersOne : Bool → Option (List ℕ) → Option (List ℕ) → S → Incoming → S → Result Unit StreamFault → Type 0
  AnswersOne last held held' old asked new (Ok u) =
      (response : Response) × (reply : List ℕ) × step old asked response new × SaidText (connection_word last) reply response × Appends held held' reply
  AnswersOne last held held' old asked new (Err WriteFault) =
      (reply : List ℕ) × Makes last old asked reply new × ((count : ℕ) × (count ≤ length reply) × Appends held held' (take count reply))
  AnswersOne last held held' old asked new (Err Memory) =
      ((response : Response) × step old asked response new × (held' ≡ held))
      ⊎ (gives_up old asked new × ((reply : List ℕ) × ResponseText reply out_of_memory × Appends held held' reply))
  AnswersOne last held held' old asked new (Err ReadFault) = ⊥
  AnswersOne last held held' old asked new (Err Ended) = ⊥
