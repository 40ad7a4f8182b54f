-- Both round trips, of the reader in one answer: what reads back by the packet's reading calls reads back by `read`, and what `read` answered of a
-- sound packet was read by them. Assumes nothing.
use Rattle.std.proofs.Common.{◌≡◌, ◌∙◌, ℕ, List, ◌++◌, take, refl, sym, subst}
use Rattle.questions.specs.Questions.{ask}
use Rattle.std.proofs.Common.{Result, Ok, Err}
use Rattle.questions.specs.declared.Refusal.{Refusal}
use Rattle.questions.specs.declared.Refusal.TheVariants as why
use Rattle.questions.proofs.Answering.{Found, none, refused, found-end, found-first, refusal_positive, left_yes}
use Rattle.little_endian.specs.Bytes.{samples_in}
use Rattle.packet.specs.Packet.{fields_of}
use Rattle.packet.specs.Calls.{read_questions, ReadResult}
use Rattle.packet.specs.RoundTrips.{ReadsBack, WasRead}
use Rattle.packet.specs.RoundTrips.WasRead.{as_part}
use Rattle.packet.specs.declared.Fields.{Fields}
use Rattle.reader.specs.Reader.{no_fields, PacketRead}
use Rattle.reader.specs.RoundTrips.{SoundRead}
use Rattle.reader.specs.declared.Packet.{Packet}

module _ (store : List ℕ) where
  -- what `read_packet` answers of a sound packet
  sound : ask (read_questions store) ≡ 0 → ReadResult store (Ok (fields_of store))
  sound z = record { number = sym z; accepted = λ _. refl }

  -- where every answer of `read_packet` is sound, no question is answered no
  all_asked : (f : Fields) → ((r : Result Fields Refusal) → ReadResult store r → r ≡ Ok f) → ask (read_questions store) ≡ 0
  all_asked f only = go first_no
    where
      -- the first question answered no
      first_no : Found (ask (read_questions store))
      first_no =
          found-first _ _ why.StoreLength refl
          (found-first _ _ why.Width refl
          (found-first _ _ why.Height refl
          (found-first _ _ why.Layout refl
          (found-first _ _ why.Rounds refl
          (found-first _ _ why.Threshold refl (found-first _ _ why.Distance refl (found-first _ _ why.DistanceOutside refl (found-first _ _ why.Sample refl found-end))))))))

      go : Found (ask (read_questions store)) → ask (read_questions store) ≡ 0
      go (none z) = z
      go (refused r e) =
          let same : Err r ≡ Ok f = only (Err r) (record { number = e; accepted = λ z. absurd (refusal_positive r (e ∙ z)) }) in
          cc

pub reads_back : (f : Fields) (samples : List ℕ) (n : ℕ) (buffer : List ℕ) → ReadsBack f samples n buffer
    → (older : List ℕ) (r : Packet) → PacketRead (older ++ take n buffer) r → SoundRead f samples r
reads_back f samples n buffer b older r p =
    let store = older ++ take n buffer in
    let z = all_asked store f (b.fields older) in
    let same : Ok (fields_of store) ≡ Ok f = b.fields older (Ok (fields_of store)) (sound store z) in
    let is : fields_of store ≡ f = cc in
    record {
      number = p.number ∙ z;
      fields = p.fields ∙ sym (left_yes (read_questions store) (fields_of store) no_fields (sym z)) ∙ is;
      part = b.part older r.samples.now p.samples;
    }

pub was_read : (store : List ℕ) (r : Packet) → PacketRead store r → r.number ≡ 0 → WasRead store r.fields (samples_in r.samples.now)
was_read store r p z =
    let asked : ask (read_questions store) ≡ 0 = sym p.number ∙ z in
    let is : fields_of store ≡ r.fields = left_yes (read_questions store) (fields_of store) no_fields (sym asked) ∙ sym p.fields in
    as_part (subst (λ (f : Fields). ReadResult store (Ok f)) is (sound store asked)) r.samples.now p.samples refl
