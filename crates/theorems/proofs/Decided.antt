-- Two results that a promise allows are equal, for each public call.
use mathlib.Core.Path.{◌≡◌}
use seplogic.Ra.Ura.{Ura}
use base.Logic.{SProp, ent, sep, fst∗, snd∗}
use prog.Memory.{Memory}
use prog.Routine.{Routine}
use types.Logic.{Logic}
use contract.Lifetimes.{Lfts}
use contract.Monad.{Fun, fact, fact_i, fact_use}
use denote.Triple.Entry.{Args, Res}
use denote.Triple.Clauses.{Ended, AtExit, Clauses}
use Rattle.xoodoo.specs.Xoodoo.{plane_bytes, to_bytes}
use Rattle.xoodoo.specs.Words.{six_bytes, eleven_bytes}
use Rattle.xoodyak.proofs.Told.{told-once}
use Rattle.theorems.proofs.Decides.{Decides, once, twice, thrice, fourfold, fivefold, sixfold}
use Rattle.xoodoo.proofs.Xoodoo.default.Reads as xoodoo-default
use Rattle.xoodoo.proofs.Xoodoo.default.Kinds as xoodoo-default-k
use Rattle.xoodoo.proofs.Xoodoo.from_bytes.Reads as xoodoo-from-bytes
use Rattle.xoodoo.proofs.Xoodoo.from_bytes.Kinds as xoodoo-from-bytes-k
use Rattle.xoodoo.proofs.Xoodoo.bytes.Reads as xoodoo-bytes
use Rattle.xoodoo.proofs.Xoodoo.bytes.Kinds as xoodoo-bytes-k
use Rattle.xoodoo.proofs.Xoodoo.add_byte.Reads as xoodoo-add-byte
use Rattle.xoodoo.proofs.Xoodoo.add_byte.Kinds as xoodoo-add-byte-k
use Rattle.xoodoo.proofs.Xoodoo.add_bytes.Reads as xoodoo-add-bytes
use Rattle.xoodoo.proofs.Xoodoo.add_bytes.Kinds as xoodoo-add-bytes-k
use Rattle.xoodoo.proofs.Xoodoo.extract_bytes.Reads as xoodoo-extract-bytes
use Rattle.xoodoo.proofs.Xoodoo.extract_bytes.Kinds as xoodoo-extract-bytes-k
use Rattle.xoodoo.proofs.Xoodoo.permute.Reads as xoodoo-permute
use Rattle.xoodoo.proofs.Xoodoo.permute.Kinds as xoodoo-permute-k
use Rattle.xoodoo.proofs.Xoodoo.inverse.Reads as xoodoo-inverse
use Rattle.xoodoo.proofs.Xoodoo.inverse.Kinds as xoodoo-inverse-k
use Rattle.xoodoo.proofs.Xoodoo.rounds.Reads as xoodoo-rounds
use Rattle.xoodoo.proofs.Xoodoo.rounds.Kinds as xoodoo-rounds-k
use Rattle.xoodoo.proofs.Xoodoo.unrounds.Reads as xoodoo-unrounds
use Rattle.xoodoo.proofs.Xoodoo.unrounds.Kinds as xoodoo-unrounds-k
use Rattle.xoodoo.proofs.plane.PlaneNot.not.Reads as plane-not
use Rattle.xoodoo.proofs.plane.PlaneNot.not.Kinds as plane-not-k
use Rattle.xoodoo.proofs.plane.PlaneBitAnd.bitand.Reads as plane-bitand
use Rattle.xoodoo.proofs.plane.PlaneBitAnd.bitand.Kinds as plane-bitand-k
use Rattle.xoodoo.proofs.plane.PlaneBitOr.bitor.Reads as plane-bitor
use Rattle.xoodoo.proofs.plane.PlaneBitOr.bitor.Kinds as plane-bitor-k
use Rattle.xoodoo.proofs.plane.PlaneBitXor.bitxor.Reads as plane-bitxor
use Rattle.xoodoo.proofs.plane.PlaneBitXor.bitxor.Kinds as plane-bitxor-k
use Rattle.xoodoo.proofs.words.to_words.Reads as to-words
use Rattle.xoodoo.proofs.words.to_words.Kinds as to-words-k
use Rattle.xoodoo.proofs.words.from_words.Reads as from-words
use Rattle.xoodoo.proofs.words.from_words.Kinds as from-words-k
use Rattle.xoodoo.proofs.words.permute_bytes.Reads as permute-bytes
use Rattle.xoodoo.proofs.words.permute_bytes.Kinds as permute-bytes-k
use Rattle.xoodoo.proofs.words.permute_words.Reads as permute-words
use Rattle.xoodoo.proofs.words.permute_words.Kinds as permute-words-k
use Rattle.xoodoo.proofs.words.PlaneBlock.front.Reads as plane-front
use Rattle.xoodoo.proofs.words.PlaneBlock.front.Kinds as plane-front-k
use Rattle.xoodoo.proofs.words.SixBlock.front.Reads as six-front
use Rattle.xoodoo.proofs.words.SixBlock.front.Kinds as six-front-k
use Rattle.xoodoo.proofs.words.ElevenBlock.front.Reads as eleven-front
use Rattle.xoodoo.proofs.words.ElevenBlock.front.Kinds as eleven-front-k
use Rattle.xoodoo.proofs.words.PlaneBlock.add.Reads as plane-add
use Rattle.xoodoo.proofs.words.PlaneBlock.add.Kinds as plane-add-k
use Rattle.xoodoo.proofs.words.SixBlock.add.Reads as six-add
use Rattle.xoodoo.proofs.words.SixBlock.add.Kinds as six-add-k
use Rattle.xoodoo.proofs.words.ElevenBlock.add.Reads as eleven-add
use Rattle.xoodoo.proofs.words.ElevenBlock.add.Kinds as eleven-add-k
use Rattle.xoodoo.proofs.words.PlaneBlock.pad.Reads as plane-pad
use Rattle.xoodoo.proofs.words.PlaneBlock.pad.Kinds as plane-pad-k
use Rattle.xoodoo.proofs.words.SixBlock.pad.Reads as six-pad
use Rattle.xoodoo.proofs.words.SixBlock.pad.Kinds as six-pad-k
use Rattle.xoodoo.proofs.words.ElevenBlock.pad.Reads as eleven-pad
use Rattle.xoodoo.proofs.words.ElevenBlock.pad.Kinds as eleven-pad-k
use Rattle.xoodoo.proofs.words.colour.Reads as colour
use Rattle.xoodoo.proofs.words.colour.Kinds as colour-k
use Rattle.xoodyak.proofs.Session.hash.Reads as hash
use Rattle.xoodyak.proofs.Session.hash.Kinds as hash-k
use Rattle.xoodyak.proofs.Session.new.Reads as new
use Rattle.xoodyak.proofs.Session.new.Kinds as new-k
use Rattle.xoodyak.proofs.Session.absorb.Reads as absorb
use Rattle.xoodyak.proofs.Session.absorb.Kinds as absorb-k
use Rattle.xoodyak.proofs.Session.absorb_more.Reads as absorb-more
use Rattle.xoodyak.proofs.Session.absorb_more.Kinds as absorb-more-k
use Rattle.xoodyak.proofs.Session.absorb_key_and_nonce.Reads as absorb-key-and-nonce
use Rattle.xoodyak.proofs.Session.absorb_key_and_nonce.Kinds as absorb-key-and-nonce-k
use Rattle.xoodyak.proofs.Session.ratchet.Reads as ratchet
use Rattle.xoodyak.proofs.Session.ratchet.Kinds as ratchet-k
use Rattle.xoodyak.proofs.Session.squeeze.Reads as squeeze
use Rattle.xoodyak.proofs.Session.squeeze.Kinds as squeeze-k
use Rattle.xoodyak.proofs.Session.squeeze_key.Reads as squeeze-key
use Rattle.xoodyak.proofs.Session.squeeze_key.Kinds as squeeze-key-k
use Rattle.xoodyak.proofs.Session.squeeze_more.Reads as squeeze-more
use Rattle.xoodyak.proofs.Session.squeeze_more.Kinds as squeeze-more-k
use Rattle.xoodyak.proofs.Session.encrypt.Reads as encrypt
use Rattle.xoodyak.proofs.Session.encrypt.Kinds as encrypt-k
use Rattle.xoodyak.proofs.Session.decrypt.Reads as decrypt
use Rattle.xoodyak.proofs.Session.decrypt.Kinds as decrypt-k
use Rattle.xoodyak.proofs.Session.encrypt_in_place.Reads as encrypt-in-place
use Rattle.xoodyak.proofs.Session.encrypt_in_place.Kinds as encrypt-in-place-k
use Rattle.xoodyak.proofs.Session.decrypt_in_place.Reads as decrypt-in-place
use Rattle.xoodyak.proofs.Session.decrypt_in_place.Kinds as decrypt-in-place-k
use Rattle.xoodyak.proofs.Session.aead_encrypt_detached.Reads as aead-encrypt-detached
use Rattle.xoodyak.proofs.Session.aead_encrypt_detached.Kinds as aead-encrypt-detached-k
use Rattle.xoodyak.proofs.Session.aead_encrypt.Reads as aead-encrypt
use Rattle.xoodyak.proofs.Session.aead_encrypt.Kinds as aead-encrypt-k
use Rattle.xoodyak.proofs.Session.aead_encrypt_in_place_detached.Reads as aead-encrypt-in-place-detached
use Rattle.xoodyak.proofs.Session.aead_encrypt_in_place_detached.Kinds as aead-encrypt-in-place-detached-k
use Rattle.xoodyak.proofs.Session.aead_encrypt_in_place.Reads as aead-encrypt-in-place
use Rattle.xoodyak.proofs.Session.aead_encrypt_in_place.Kinds as aead-encrypt-in-place-k
use Rattle.xoodyak.proofs.Session.aead_decrypt_detached.Reads as aead-decrypt-detached
use Rattle.xoodyak.proofs.Session.aead_decrypt_detached.Kinds as aead-decrypt-detached-k
use Rattle.xoodyak.proofs.Session.aead_decrypt.Reads as aead-decrypt
use Rattle.xoodyak.proofs.Session.aead_decrypt.Kinds as aead-decrypt-k
use Rattle.xoodyak.proofs.Session.aead_decrypt_in_place_detached.Reads as aead-decrypt-in-place-detached
use Rattle.xoodyak.proofs.Session.aead_decrypt_in_place_detached.Kinds as aead-decrypt-in-place-detached-k
use Rattle.xoodyak.proofs.Session.aead_decrypt_in_place.Reads as aead-decrypt-in-place
use Rattle.xoodyak.proofs.Session.aead_decrypt_in_place.Kinds as aead-decrypt-in-place-k
use Rattle.xoodyak.proofs.Session.begin.Reads as begin
use Rattle.xoodyak.proofs.Session.begin.Kinds as begin-k
use Rattle.xoodyak.proofs.Session.feed.Reads as feed
use Rattle.xoodyak.proofs.Session.feed.Kinds as feed-k
use Rattle.xoodyak.proofs.Session.finish_seal.Reads as finish-seal
use Rattle.xoodyak.proofs.Session.finish_seal.Kinds as finish-seal-k
use Rattle.xoodyak.proofs.Session.finish_open.Reads as finish-open
use Rattle.xoodyak.proofs.Session.finish_open.Kinds as finish-open-k
use Rattle.xoodyak.proofs.aead.plaintext_part.Reads as plaintext-part
use Rattle.xoodyak.proofs.aead.plaintext_part.Kinds as plaintext-part-k
use Rattle.xoodyak.proofs.tag.Tag.default.Reads as tag-default
use Rattle.xoodyak.proofs.tag.Tag.default.Kinds as tag-default-k
use Rattle.xoodyak.proofs.tag.Tag.from_bytes.Reads as tag-from-bytes
use Rattle.xoodyak.proofs.tag.Tag.from_bytes.Kinds as tag-from-bytes-k
use Rattle.xoodyak.proofs.tag.Tag.into_bytes.Reads as tag-into-bytes
use Rattle.xoodyak.proofs.tag.Tag.into_bytes.Kinds as tag-into-bytes-k
use Rattle.xoodyak.proofs.tag.Tag.verify.Reads as tag-verify
use Rattle.xoodyak.proofs.tag.Tag.verify.Kinds as tag-verify-k
use Rattle.xoodyak.proofs.cyclist.Mode.absorb_rate.Reads as mode-absorb-rate
use Rattle.xoodyak.proofs.cyclist.Mode.absorb_rate.Kinds as mode-absorb-rate-k
use Rattle.xoodyak.proofs.cyclist.Mode.squeeze_rate.Reads as mode-squeeze-rate
use Rattle.xoodyak.proofs.cyclist.Mode.squeeze_rate.Kinds as mode-squeeze-rate-k
use Rattle.xoodyak.proofs.cyclist.Mode.down_colour.Reads as mode-down-colour
use Rattle.xoodyak.proofs.cyclist.Mode.down_colour.Kinds as mode-down-colour-k
use Rattle.xoodyak.proofs.cyclist.Mode.keyed.Reads as mode-keyed
use Rattle.xoodyak.proofs.cyclist.Mode.keyed.Kinds as mode-keyed-k
use Rattle.xoodyak.proofs.cyclist.Mode.takes.Reads as mode-takes
use Rattle.xoodyak.proofs.cyclist.Mode.takes.Kinds as mode-takes-k
use Rattle.xoodyak.proofs.Rule.is_empty_block.Reads as rule-is-empty-block
use Rattle.xoodyak.proofs.Rule.is_empty_block.Kinds as rule-is-empty-block-k
use Rattle.xoodyak.proofs.numbers.key_lengths.Reads as key-lengths
use Rattle.xoodyak.proofs.numbers.key_lengths.Kinds as key-lengths-k
use Rattle.xoodyak.proofs.bytes.or_empty.Reads as or-empty
use Rattle.xoodyak.proofs.bytes.or_empty.Kinds as or-empty-k
use Rattle.xoodyak.proofs.bytes.choose.Reads as choose
use Rattle.xoodyak.proofs.bytes.choose.Kinds as choose-k
use Rattle.xoodyak.proofs.numbers.Refusal.number.Reads as refusal-number
use Rattle.xoodyak.proofs.numbers.Refusal.number.Kinds as refusal-number-k
use Rattle.xoodyak.proofs.numbers.Refusal.missing.Reads as refusal-missing
use Rattle.xoodyak.proofs.numbers.Refusal.missing.Kinds as refusal-missing-k
use Rattle.face.specs.contracts.hash.absorb as lent-absorb
use Rattle.face.specs.contracts.hash.absorb_more as lent-absorb-more
use Rattle.face.specs.contracts.hash.squeeze as lent-squeeze
use Rattle.face.specs.contracts.hash.squeeze_key as lent-squeeze-key
use Rattle.face.specs.contracts.hash.squeeze_more as lent-squeeze-more
use Rattle.face.specs.contracts.keyed.absorb_key_and_nonce as lent-absorb-key-and-nonce
use Rattle.face.specs.contracts.keyed.ratchet as lent-ratchet
use Rattle.face.specs.contracts.keyed.encrypt as lent-encrypt
use Rattle.face.specs.contracts.keyed.decrypt as lent-decrypt
use Rattle.face.specs.contracts.keyed.encrypt_in_place as lent-encrypt-in-place
use Rattle.face.specs.contracts.keyed.decrypt_in_place as lent-decrypt-in-place
use Rattle.face.specs.contracts.aead.aead_encrypt_detached as lent-aead-encrypt-detached
use Rattle.face.specs.contracts.aead.aead_encrypt as lent-aead-encrypt
use Rattle.face.specs.contracts.aead.aead_encrypt_in_place_detached as lent-aead-encrypt-in-place-detached
use Rattle.face.specs.contracts.aead.aead_encrypt_in_place as lent-aead-encrypt-in-place
use Rattle.face.specs.contracts.aead.aead_decrypt_detached as lent-aead-decrypt-detached
use Rattle.face.specs.contracts.aead.aead_decrypt as lent-aead-decrypt
use Rattle.face.specs.contracts.aead.aead_decrypt_in_place_detached as lent-aead-decrypt-in-place-detached
use Rattle.face.specs.contracts.aead.aead_decrypt_in_place as lent-aead-decrypt-in-place
use Rattle.face.specs.contracts.feed.begin as lent-begin
use Rattle.face.specs.contracts.feed.feed as lent-feed
use Rattle.face.specs.contracts.feed.finish_seal as lent-finish-seal
use Rattle.face.specs.contracts.feed.finish_open as lent-finish-open
use Rattle.walkback.proofs.absorb.Reads as back-absorb
use Rattle.walkback.proofs.absorb.Kinds as back-absorb-k
use Rattle.walkback.proofs.absorb_more.Reads as back-absorb-more
use Rattle.walkback.proofs.absorb_more.Kinds as back-absorb-more-k
use Rattle.walkback.proofs.squeeze.Reads as back-squeeze
use Rattle.walkback.proofs.squeeze.Kinds as back-squeeze-k
use Rattle.walkback.proofs.squeeze_key.Reads as back-squeeze-key
use Rattle.walkback.proofs.squeeze_key.Kinds as back-squeeze-key-k
use Rattle.walkback.proofs.squeeze_more.Reads as back-squeeze-more
use Rattle.walkback.proofs.squeeze_more.Kinds as back-squeeze-more-k
use Rattle.walkback.proofs.key.Reads as back-key
use Rattle.walkback.proofs.key.Kinds as back-key-k
use Rattle.walkback.proofs.encrypt.Reads as back-encrypt
use Rattle.walkback.proofs.encrypt.Kinds as back-encrypt-k
use Rattle.walkback.proofs.seal.Reads as back-seal
use Rattle.walkback.proofs.seal.Kinds as back-seal-k
use Rattle.walkback.proofs.phase_after.Reads as back-phase-after
use Rattle.walkback.proofs.phase_after.Kinds as back-phase-after-k
use Rattle.capi.proofs.lafomeihu_xoodoo_permute.Reads as c-xoodoo-permute
use Rattle.capi.proofs.lafomeihu_xoodoo_permute.Kinds as c-xoodoo-permute-k
use Rattle.capi.proofs.lafomeihu_xoodoo_inverse.Reads as c-xoodoo-inverse
use Rattle.capi.proofs.lafomeihu_xoodoo_inverse.Kinds as c-xoodoo-inverse-k
use Rattle.capi.proofs.lafomeihu_xoodoo_rounds.Reads as c-xoodoo-rounds
use Rattle.capi.proofs.lafomeihu_xoodoo_rounds.Kinds as c-xoodoo-rounds-k
use Rattle.capi.proofs.lafomeihu_xoodoo_unrounds.Reads as c-xoodoo-unrounds
use Rattle.capi.proofs.lafomeihu_xoodoo_unrounds.Kinds as c-xoodoo-unrounds-k
use Rattle.capi.proofs.lafomeihu_xoodoo_add_byte.Reads as c-xoodoo-add-byte
use Rattle.capi.proofs.lafomeihu_xoodoo_add_byte.Kinds as c-xoodoo-add-byte-k
use Rattle.capi.proofs.lafomeihu_xoodoo_add_bytes.Reads as c-xoodoo-add-bytes
use Rattle.capi.proofs.lafomeihu_xoodoo_add_bytes.Kinds as c-xoodoo-add-bytes-k
use Rattle.capi.proofs.lafomeihu_xoodoo_extract_bytes.Reads as c-xoodoo-extract-bytes
use Rattle.capi.proofs.lafomeihu_xoodoo_extract_bytes.Kinds as c-xoodoo-extract-bytes-k
use Rattle.capi.proofs.hash.lafomeihu_hash.Reads as c-hash
use Rattle.capi.proofs.hash.lafomeihu_hash.Kinds as c-hash-k
use Rattle.capi.proofs.hash.lafomeihu_absorb.Reads as c-absorb
use Rattle.capi.proofs.hash.lafomeihu_absorb.Kinds as c-absorb-k
use Rattle.capi.proofs.hash.lafomeihu_absorb_more.Reads as c-absorb-more
use Rattle.capi.proofs.hash.lafomeihu_absorb_more.Kinds as c-absorb-more-k
use Rattle.capi.proofs.hash.lafomeihu_squeeze.Reads as c-squeeze
use Rattle.capi.proofs.hash.lafomeihu_squeeze.Kinds as c-squeeze-k
use Rattle.capi.proofs.hash.lafomeihu_squeeze_key.Reads as c-squeeze-key
use Rattle.capi.proofs.hash.lafomeihu_squeeze_key.Kinds as c-squeeze-key-k
use Rattle.capi.proofs.hash.lafomeihu_squeeze_more.Reads as c-squeeze-more
use Rattle.capi.proofs.hash.lafomeihu_squeeze_more.Kinds as c-squeeze-more-k
use Rattle.capi.proofs.keyed.lafomeihu_new.Reads as c-new
use Rattle.capi.proofs.keyed.lafomeihu_new.Kinds as c-new-k
use Rattle.capi.proofs.keyed.lafomeihu_absorb_key_and_nonce.Reads as c-absorb-key-and-nonce
use Rattle.capi.proofs.keyed.lafomeihu_absorb_key_and_nonce.Kinds as c-absorb-key-and-nonce-k
use Rattle.capi.proofs.keyed.lafomeihu_ratchet.Reads as c-ratchet
use Rattle.capi.proofs.keyed.lafomeihu_ratchet.Kinds as c-ratchet-k
use Rattle.capi.proofs.keyed.lafomeihu_encrypt.Reads as c-encrypt
use Rattle.capi.proofs.keyed.lafomeihu_encrypt.Kinds as c-encrypt-k
use Rattle.capi.proofs.keyed.lafomeihu_decrypt.Reads as c-decrypt
use Rattle.capi.proofs.keyed.lafomeihu_decrypt.Kinds as c-decrypt-k
use Rattle.capi.proofs.keyed.lafomeihu_encrypt_in_place.Reads as c-encrypt-in-place
use Rattle.capi.proofs.keyed.lafomeihu_encrypt_in_place.Kinds as c-encrypt-in-place-k
use Rattle.capi.proofs.keyed.lafomeihu_decrypt_in_place.Reads as c-decrypt-in-place
use Rattle.capi.proofs.keyed.lafomeihu_decrypt_in_place.Kinds as c-decrypt-in-place-k
use Rattle.capi.proofs.aead.lafomeihu_aead_encrypt_detached.Reads as c-aead-encrypt-detached
use Rattle.capi.proofs.aead.lafomeihu_aead_encrypt_detached.Kinds as c-aead-encrypt-detached-k
use Rattle.capi.proofs.aead.lafomeihu_aead_encrypt.Reads as c-aead-encrypt
use Rattle.capi.proofs.aead.lafomeihu_aead_encrypt.Kinds as c-aead-encrypt-k
use Rattle.capi.proofs.aead.lafomeihu_aead_decrypt_detached.Reads as c-aead-decrypt-detached
use Rattle.capi.proofs.aead.lafomeihu_aead_decrypt_detached.Kinds as c-aead-decrypt-detached-k
use Rattle.capi.proofs.aead.lafomeihu_aead_decrypt.Reads as c-aead-decrypt
use Rattle.capi.proofs.aead.lafomeihu_aead_decrypt.Kinds as c-aead-decrypt-k
use Rattle.capi.proofs.aead.lafomeihu_aead_encrypt_in_place_detached.Reads as c-aead-encrypt-in-place-detached
use Rattle.capi.proofs.aead.lafomeihu_aead_encrypt_in_place_detached.Kinds as c-aead-encrypt-in-place-detached-k
use Rattle.capi.proofs.aead.lafomeihu_aead_encrypt_in_place.Reads as c-aead-encrypt-in-place
use Rattle.capi.proofs.aead.lafomeihu_aead_encrypt_in_place.Kinds as c-aead-encrypt-in-place-k
use Rattle.capi.proofs.aead.lafomeihu_aead_decrypt_in_place_detached.Reads as c-aead-decrypt-in-place-detached
use Rattle.capi.proofs.aead.lafomeihu_aead_decrypt_in_place_detached.Kinds as c-aead-decrypt-in-place-detached-k
use Rattle.capi.proofs.aead.lafomeihu_aead_decrypt_in_place.Reads as c-aead-decrypt-in-place
use Rattle.capi.proofs.aead.lafomeihu_aead_decrypt_in_place.Kinds as c-aead-decrypt-in-place-k
use Rattle.capi.proofs.aead.lafomeihu_verify.Reads as c-verify
use Rattle.capi.proofs.aead.lafomeihu_verify.Kinds as c-verify-k
use Rattle.capi.proofs.feed.lafomeihu_begin.Reads as c-begin
use Rattle.capi.proofs.feed.lafomeihu_begin.Kinds as c-begin-k
use Rattle.capi.proofs.feed.lafomeihu_feed.Reads as c-feed
use Rattle.capi.proofs.feed.lafomeihu_feed.Kinds as c-feed-k
use Rattle.capi.proofs.feed.lafomeihu_finish_seal.Reads as c-finish-seal
use Rattle.capi.proofs.feed.lafomeihu_finish_seal.Kinds as c-finish-seal-k
use Rattle.capi.proofs.feed.lafomeihu_finish_open.Reads as c-finish-open
use Rattle.capi.proofs.feed.lafomeihu_finish_open.Kinds as c-finish-open-k
use Rattle.capi.proofs.back.lafomeihu_back_absorb.Reads as c-back-absorb
use Rattle.capi.proofs.back.lafomeihu_back_absorb.Kinds as c-back-absorb-k
use Rattle.capi.proofs.back.lafomeihu_back_absorb_more.Reads as c-back-absorb-more
use Rattle.capi.proofs.back.lafomeihu_back_absorb_more.Kinds as c-back-absorb-more-k
use Rattle.capi.proofs.back.lafomeihu_back_squeeze.Reads as c-back-squeeze
use Rattle.capi.proofs.back.lafomeihu_back_squeeze.Kinds as c-back-squeeze-k
use Rattle.capi.proofs.back.lafomeihu_back_squeeze_key.Reads as c-back-squeeze-key
use Rattle.capi.proofs.back.lafomeihu_back_squeeze_key.Kinds as c-back-squeeze-key-k
use Rattle.capi.proofs.back.lafomeihu_back_squeeze_more.Reads as c-back-squeeze-more
use Rattle.capi.proofs.back.lafomeihu_back_squeeze_more.Kinds as c-back-squeeze-more-k
use Rattle.capi.proofs.back.lafomeihu_back_key.Reads as c-back-key
use Rattle.capi.proofs.back.lafomeihu_back_key.Kinds as c-back-key-k
use Rattle.capi.proofs.back.lafomeihu_back_encrypt.Reads as c-back-encrypt
use Rattle.capi.proofs.back.lafomeihu_back_encrypt.Kinds as c-back-encrypt-k
use Rattle.capi.proofs.back.lafomeihu_back_seal.Reads as c-back-seal
use Rattle.capi.proofs.back.lafomeihu_back_seal.Kinds as c-back-seal-k

-- ---- the permutation
pub xoodoo-default-decided : Decides 0 xoodoo-default-k.ps xoodoo-default-k.r xoodoo-default.Post (λ κs x x' e e'. x ≡ x')
xoodoo-default-decided κs a x x' e e' = once

pub xoodoo-from-bytes-decided : Decides 0 xoodoo-from-bytes-k.ps xoodoo-from-bytes-k.r xoodoo-from-bytes.Post (λ κs x x' e e'. x ≡ x')
xoodoo-from-bytes-decided κs a x x' e e' = once

pub xoodoo-bytes-decided : Decides 1 xoodoo-bytes-k.ps xoodoo-bytes-k.r xoodoo-bytes.Post (λ κs x x' e e'. e.1.0.now ≡ e'.1.0.now)
xoodoo-bytes-decided κs a x x' e e' = once

pub xoodoo-add-byte-decided : Decides 0 xoodoo-add-byte-k.ps xoodoo-add-byte-k.r xoodoo-add-byte.Post (λ κs x x' e e'. x ≡ x')
xoodoo-add-byte-decided κs a x x' e e' = once

pub xoodoo-add-bytes-decided : Decides 1 xoodoo-add-bytes-k.ps xoodoo-add-bytes-k.r xoodoo-add-bytes.Post (λ κs x x' e e'. x ≡ x')
xoodoo-add-bytes-decided κs a x x' e e' = once

pub xoodoo-extract-bytes-decided : Decides 1 xoodoo-extract-bytes-k.ps xoodoo-extract-bytes-k.r xoodoo-extract-bytes.Post (λ κs x x' e e'. (x ≡ x') × (e.1.0.now ≡ e'.1.0.now))
xoodoo-extract-bytes-decided κs a x x' e e' = twice

pub xoodoo-permute-decided : Decides 0 xoodoo-permute-k.ps xoodoo-permute-k.r xoodoo-permute.Post (λ κs x x' e e'. x ≡ x')
xoodoo-permute-decided κs a x x' e e' = once

pub xoodoo-inverse-decided : Decides 0 xoodoo-inverse-k.ps xoodoo-inverse-k.r xoodoo-inverse.Post (λ κs x x' e e'. x ≡ x')
xoodoo-inverse-decided κs a x x' e e' = once

pub xoodoo-rounds-decided : Decides 0 xoodoo-rounds-k.ps xoodoo-rounds-k.r xoodoo-rounds.Post (λ κs x x' e e'. x ≡ x')
xoodoo-rounds-decided κs a x x' e e' = once

pub xoodoo-unrounds-decided : Decides 0 xoodoo-unrounds-k.ps xoodoo-unrounds-k.r xoodoo-unrounds.Post (λ κs x x' e e'. x ≡ x')
xoodoo-unrounds-decided κs a x x' e e' = once

-- ---- a plane's operators
pub plane-not-decided : Decides 0 plane-not-k.ps plane-not-k.r plane-not.Post (λ κs x x' e e'. x ≡ x')
plane-not-decided κs a x x' e e' = once

pub plane-bitand-decided : Decides 0 plane-bitand-k.ps plane-bitand-k.r plane-bitand.Post (λ κs x x' e e'. x ≡ x')
plane-bitand-decided κs a x x' e e' = once

pub plane-bitor-decided : Decides 0 plane-bitor-k.ps plane-bitor-k.r plane-bitor.Post (λ κs x x' e e'. x ≡ x')
plane-bitor-decided κs a x x' e e' = once

pub plane-bitxor-decided : Decides 0 plane-bitxor-k.ps plane-bitxor-k.r plane-bitxor.Post (λ κs x x' e e'. x ≡ x')
plane-bitxor-decided κs a x x' e e' = once

-- ---- sessions
-- words are promised, and so decided, by their bytes
pub to-words-decided : Decides 1 to-words-k.ps to-words-k.r to-words.Post (λ κs x x' e e'. to_bytes x ≡ to_bytes x')
to-words-decided κs a x x' e e' = once

pub from-words-decided : Decides 0 from-words-k.ps from-words-k.r from-words.Post (λ κs x x' e e'. x ≡ x')
from-words-decided κs a x x' e e' = once

pub permute-bytes-decided : Decides 1 permute-bytes-k.ps permute-bytes-k.r permute-bytes.Post (λ κs x x' e e'. e.0.now ≡ e'.0.now)
permute-bytes-decided κs a x x' e e' = once

pub permute-words-decided : Decides 0 permute-words-k.ps permute-words-k.r permute-words.Post (λ κs x x' e e'. to_bytes x ≡ to_bytes x')
permute-words-decided κs a x x' e e' = once

-- the methods of a block, at each type of block
pub plane-front-decided : Decides 0 plane-front-k.ps plane-front-k.r plane-front.Post (λ κs x x' e e'. plane_bytes x ≡ plane_bytes x')
plane-front-decided κs a x x' e e' = once

pub six-front-decided : Decides 0 six-front-k.ps six-front-k.r six-front.Post (λ κs x x' e e'. six_bytes x ≡ six_bytes x')
six-front-decided κs a x x' e e' = once

pub eleven-front-decided : Decides 0 eleven-front-k.ps eleven-front-k.r eleven-front.Post (λ κs x x' e e'. eleven_bytes x ≡ eleven_bytes x')
eleven-front-decided κs a x x' e e' = once

pub plane-add-decided : Decides 0 plane-add-k.ps plane-add-k.r plane-add.Post (λ κs x x' e e'. to_bytes x ≡ to_bytes x')
plane-add-decided κs a x x' e e' = once

pub six-add-decided : Decides 0 six-add-k.ps six-add-k.r six-add.Post (λ κs x x' e e'. to_bytes x ≡ to_bytes x')
six-add-decided κs a x x' e e' = once

pub eleven-add-decided : Decides 0 eleven-add-k.ps eleven-add-k.r eleven-add.Post (λ κs x x' e e'. to_bytes x ≡ to_bytes x')
eleven-add-decided κs a x x' e e' = once

pub plane-pad-decided : Decides 0 plane-pad-k.ps plane-pad-k.r plane-pad.Post (λ κs x x' e e'. to_bytes x ≡ to_bytes x')
plane-pad-decided κs a x x' e e' = once

pub six-pad-decided : Decides 0 six-pad-k.ps six-pad-k.r six-pad.Post (λ κs x x' e e'. to_bytes x ≡ to_bytes x')
six-pad-decided κs a x x' e e' = once

pub eleven-pad-decided : Decides 0 eleven-pad-k.ps eleven-pad-k.r eleven-pad.Post (λ κs x x' e e'. to_bytes x ≡ to_bytes x')
eleven-pad-decided κs a x x' e e' = once

pub colour-decided : Decides 0 colour-k.ps colour-k.r colour.Post (λ κs x x' e e'. to_bytes x ≡ to_bytes x')
colour-decided κs a x x' e e' = once

pub hash-decided : Decides 0 hash-k.ps hash-k.r hash.Post (λ κs x x' e e'. x ≡ x')
hash-decided κs a x x' e e' = once

pub new-decided : Decides 3 new-k.ps new-k.r new.Post (λ κs x x' e e'. x ≡ x')
new-decided κs a x x' e e' = once

pub absorb-decided : Decides 1 absorb-k.ps absorb-k.r absorb.Post (λ κs x x' e e'. x ≡ x')
absorb-decided κs a x x' e e' = once

pub absorb-more-decided : Decides 1 absorb-more-k.ps absorb-more-k.r absorb-more.Post (λ κs x x' e e'. x ≡ x')
absorb-more-decided κs a x x' e e' = once

pub absorb-key-and-nonce-decided : Decides 3 absorb-key-and-nonce-k.ps absorb-key-and-nonce-k.r absorb-key-and-nonce.Post (λ κs x x' e e'. x ≡ x')
absorb-key-and-nonce-decided κs a x x' e e' = once

pub ratchet-decided : Decides 0 ratchet-k.ps ratchet-k.r ratchet.Post (λ κs x x' e e'. x ≡ x')
ratchet-decided κs a x x' e e' = once

pub squeeze-decided : Decides 1 squeeze-k.ps squeeze-k.r squeeze.Post (λ κs x x' e e'. (x ≡ x') × (e.1.0.now ≡ e'.1.0.now))
squeeze-decided κs a x x' e e' = twice

pub squeeze-key-decided : Decides 1 squeeze-key-k.ps squeeze-key-k.r squeeze-key.Post (λ κs x x' e e'. (x ≡ x') × (e.1.0.now ≡ e'.1.0.now))
squeeze-key-decided κs a x x' e e' = twice

pub squeeze-more-decided : Decides 1 squeeze-more-k.ps squeeze-more-k.r squeeze-more.Post (λ κs x x' e e'. (x ≡ x') × (e.1.0.now ≡ e'.1.0.now))
squeeze-more-decided κs a x x' e e' = twice

pub encrypt-decided : Decides 2 encrypt-k.ps encrypt-k.r encrypt.Post (λ κs x x' e e'. (x ≡ x') × (e.1.0.now ≡ e'.1.0.now))
encrypt-decided κs a x x' e e' = twice

pub decrypt-decided : Decides 2 decrypt-k.ps decrypt-k.r decrypt.Post (λ κs x x' e e'. (x ≡ x') × (e.1.0.now ≡ e'.1.0.now))
decrypt-decided κs a x x' e e' = twice

pub encrypt-in-place-decided : Decides 1 encrypt-in-place-k.ps encrypt-in-place-k.r encrypt-in-place.Post (λ κs x x' e e'. (x ≡ x') × (e.1.0.now ≡ e'.1.0.now))
encrypt-in-place-decided κs a x x' e e' = twice

pub decrypt-in-place-decided : Decides 1 decrypt-in-place-k.ps decrypt-in-place-k.r decrypt-in-place.Post (λ κs x x' e e'. (x ≡ x') × (e.1.0.now ≡ e'.1.0.now))
decrypt-in-place-decided κs a x x' e e' = twice

pub aead-encrypt-detached-decided : Decides 2 aead-encrypt-detached-k.ps aead-encrypt-detached-k.r aead-encrypt-detached.Post (λ κs x x' e e'. (x ≡ x') × (e.1.0.now ≡ e'.1.0.now))
aead-encrypt-detached-decided κs a x x' e e' = twice

pub aead-encrypt-decided : Decides 2 aead-encrypt-k.ps aead-encrypt-k.r aead-encrypt.Post (λ κs x x' e e'. (x ≡ x') × (e.1.0.now ≡ e'.1.0.now))
aead-encrypt-decided κs a x x' e e' = twice

pub aead-encrypt-in-place-detached-decided : Decides 1 aead-encrypt-in-place-detached-k.ps aead-encrypt-in-place-detached-k.r aead-encrypt-in-place-detached.Post (λ κs x x' e e'. (x ≡ x') × (e.1.0.now ≡ e'.1.0.now))
aead-encrypt-in-place-detached-decided κs a x x' e e' = twice

pub aead-encrypt-in-place-decided : Decides 1 aead-encrypt-in-place-k.ps aead-encrypt-in-place-k.r aead-encrypt-in-place.Post (λ κs x x' e e'. (x ≡ x') × (e.1.0.now ≡ e'.1.0.now))
aead-encrypt-in-place-decided κs a x x' e e' = twice

pub aead-decrypt-detached-decided : Decides 2 aead-decrypt-detached-k.ps aead-decrypt-detached-k.r aead-decrypt-detached.Post (λ κs x x' e e'. (x ≡ x') × (e.1.0.now ≡ e'.1.0.now))
aead-decrypt-detached-decided κs a x x' e e' = twice

pub aead-decrypt-decided : Decides 2 aead-decrypt-k.ps aead-decrypt-k.r aead-decrypt.Post (λ κs x x' e e'. (x ≡ x') × (e.1.0.now ≡ e'.1.0.now))
aead-decrypt-decided κs a x x' e e' = twice

pub aead-decrypt-in-place-detached-decided : Decides 1 aead-decrypt-in-place-detached-k.ps aead-decrypt-in-place-detached-k.r aead-decrypt-in-place-detached.Post (λ κs x x' e e'. (x ≡ x') × (e.1.0.now ≡ e'.1.0.now))
aead-decrypt-in-place-detached-decided κs a x x' e e' = twice

pub aead-decrypt-in-place-decided : Decides 1 aead-decrypt-in-place-k.ps aead-decrypt-in-place-k.r aead-decrypt-in-place.Post (λ κs x x' e e'. (x ≡ x') × (e.1.0.now ≡ e'.1.0.now))
aead-decrypt-in-place-decided κs a x x' e e' = twice

pub plaintext-part-decided : Decides 1 plaintext-part-k.ps plaintext-part-k.r plaintext-part.Post (λ κs x x' e e'. (x.ref_ptr ≡ x'.ref_ptr) × (x.now ≡ x'.now))
plaintext-part-decided κs a x x' e e' = twice

-- ---- a message handed over bit by bit
pub begin-decided : Decides 0 begin-k.ps begin-k.r begin.Post (λ κs x x' e e'. x ≡ x')
begin-decided κs a x x' e e' = once

pub feed-decided : Decides 2 feed-k.ps feed-k.r feed.Post (λ κs x x' e e'. (x ≡ x') × (e.1.1.0.now ≡ e'.1.1.0.now))
feed-decided κs a x x' e e' = twice

pub finish-seal-decided : Decides 0 finish-seal-k.ps finish-seal-k.r finish-seal.Post (λ κs x x' e e'. x ≡ x')
finish-seal-decided κs a x x' e e' = once

pub finish-open-decided : Decides 0 finish-open-k.ps finish-open-k.r finish-open.Post (λ κs x x' e e'. x ≡ x')
finish-open-decided κs a x x' e e' = once

-- ---- sessions lent and changed in place
-- such a contract is read no further than its clauses, so this is said of them: who has what they say of two outcomes has that the outcomes agree
module _ {M : Type 1} {𝓤 : Ura M} (𝓛 : Logic 𝓤) (mem : Memory → SProp 𝓤) (run : Routine → Fun 𝓤) where
  abbrev DecidesLent : (T : Ended) → Clauses 𝓤 T → ((κs : Lfts T.signature.lifetimes) (x x' : Res T.signature κs) (e e' : AtExit T κs) → Type 0) → Type 1
  DecidesLent T c Same =
      (κs : Lfts T.signature.lifetimes) (a : Args T.signature κs) (g : (c κs a).ghost) (x x' : Res T.signature κs) (e e' : AtExit T κs) →
      ent 𝓤 (sep 𝓤 ((c κs a).ensures g x e) ((c κs a).ensures g x' e')) (fact 𝓤 (Same κs x x' e e'))

  agree : {φ ψ χ : Type 0} → (φ → ψ → χ) → ent 𝓤 (sep 𝓤 (fact 𝓤 φ) (fact 𝓤 ψ)) (fact 𝓤 χ)
  agree {φ} {ψ} {χ} f =
      fact_use 𝓤 φ (fst∗ 𝓤 (fact 𝓤 φ) (fact 𝓤 ψ)) (λ p. fact_use 𝓤 ψ (snd∗ 𝓤 (fact 𝓤 φ) (fact 𝓤 ψ)) (λ q. fact_i 𝓤 χ _ (f p q)))

  pub lent-absorb-decided : DecidesLent lent-absorb.ended (lent-absorb.clauses 𝓛 mem run) (λ κs x x' e e'. (x ≡ x') × (e.0.now ≡ e'.0.now))
  lent-absorb-decided κs a g x x' e e' = agree twice

  pub lent-absorb-more-decided : DecidesLent lent-absorb-more.ended (lent-absorb-more.clauses 𝓛 mem run) (λ κs x x' e e'. (x ≡ x') × (e.0.now ≡ e'.0.now))
  lent-absorb-more-decided κs a g x x' e e' = agree twice

  pub lent-squeeze-decided : DecidesLent lent-squeeze.ended (lent-squeeze.clauses 𝓛 mem run) (λ κs x x' e e'. (x ≡ x') × ((e.0.now ≡ e'.0.now) × (e.1.0.now ≡ e'.1.0.now)))
  lent-squeeze-decided κs a g x x' e e' = agree thrice

  pub lent-squeeze-key-decided : DecidesLent lent-squeeze-key.ended (lent-squeeze-key.clauses 𝓛 mem run) (λ κs x x' e e'. (x ≡ x') × ((e.0.now ≡ e'.0.now) × (e.1.0.now ≡ e'.1.0.now)))
  lent-squeeze-key-decided κs a g x x' e e' = agree thrice

  pub lent-squeeze-more-decided : DecidesLent lent-squeeze-more.ended (lent-squeeze-more.clauses 𝓛 mem run) (λ κs x x' e e'. (x ≡ x') × ((e.0.now ≡ e'.0.now) × (e.1.0.now ≡ e'.1.0.now)))
  lent-squeeze-more-decided κs a g x x' e e' = agree thrice

  pub lent-absorb-key-and-nonce-decided : DecidesLent lent-absorb-key-and-nonce.ended (lent-absorb-key-and-nonce.clauses 𝓛 mem run) (λ κs x x' e e'. (x ≡ x') × (e.0.now ≡ e'.0.now))
  lent-absorb-key-and-nonce-decided κs a g x x' e e' = agree twice

  pub lent-ratchet-decided : DecidesLent lent-ratchet.ended (lent-ratchet.clauses 𝓛 mem run) (λ κs x x' e e'. (x ≡ x') × (e.0.now ≡ e'.0.now))
  lent-ratchet-decided κs a g x x' e e' = agree twice

  pub lent-encrypt-decided : DecidesLent lent-encrypt.ended (lent-encrypt.clauses 𝓛 mem run) (λ κs x x' e e'. (x ≡ x') × ((e.0.now ≡ e'.0.now) × (e.1.0.now ≡ e'.1.0.now)))
  lent-encrypt-decided κs a g x x' e e' = agree thrice

  pub lent-decrypt-decided : DecidesLent lent-decrypt.ended (lent-decrypt.clauses 𝓛 mem run) (λ κs x x' e e'. (x ≡ x') × ((e.0.now ≡ e'.0.now) × (e.1.0.now ≡ e'.1.0.now)))
  lent-decrypt-decided κs a g x x' e e' = agree thrice

  pub lent-encrypt-in-place-decided : DecidesLent lent-encrypt-in-place.ended (lent-encrypt-in-place.clauses 𝓛 mem run) (λ κs x x' e e'. (x ≡ x') × ((e.0.now ≡ e'.0.now) × (e.1.0.now ≡ e'.1.0.now)))
  lent-encrypt-in-place-decided κs a g x x' e e' = agree thrice

  pub lent-decrypt-in-place-decided : DecidesLent lent-decrypt-in-place.ended (lent-decrypt-in-place.clauses 𝓛 mem run) (λ κs x x' e e'. (x ≡ x') × ((e.0.now ≡ e'.0.now) × (e.1.0.now ≡ e'.1.0.now)))
  lent-decrypt-in-place-decided κs a g x x' e e' = agree thrice

  pub lent-aead-encrypt-detached-decided : DecidesLent lent-aead-encrypt-detached.ended (lent-aead-encrypt-detached.clauses 𝓛 mem run) (λ κs x x' e e'. (x ≡ x') × ((e.0.now ≡ e'.0.now) × (e.1.0.now ≡ e'.1.0.now)))
  lent-aead-encrypt-detached-decided κs a g x x' e e' = agree thrice

  pub lent-aead-encrypt-decided : DecidesLent lent-aead-encrypt.ended (lent-aead-encrypt.clauses 𝓛 mem run) (λ κs x x' e e'. (x ≡ x') × ((e.0.now ≡ e'.0.now) × (e.1.0.now ≡ e'.1.0.now)))
  lent-aead-encrypt-decided κs a g x x' e e' = agree thrice

  pub lent-aead-encrypt-in-place-detached-decided : DecidesLent lent-aead-encrypt-in-place-detached.ended (lent-aead-encrypt-in-place-detached.clauses 𝓛 mem run) (λ κs x x' e e'. (x ≡ x') × ((e.0.now ≡ e'.0.now) × (e.1.0.now ≡ e'.1.0.now)))
  lent-aead-encrypt-in-place-detached-decided κs a g x x' e e' = agree thrice

  pub lent-aead-encrypt-in-place-decided : DecidesLent lent-aead-encrypt-in-place.ended (lent-aead-encrypt-in-place.clauses 𝓛 mem run) (λ κs x x' e e'. (x ≡ x') × ((e.0.now ≡ e'.0.now) × (e.1.0.now ≡ e'.1.0.now)))
  lent-aead-encrypt-in-place-decided κs a g x x' e e' = agree thrice

  pub lent-aead-decrypt-detached-decided : DecidesLent lent-aead-decrypt-detached.ended (lent-aead-decrypt-detached.clauses 𝓛 mem run) (λ κs x x' e e'. (x ≡ x') × ((e.0.now ≡ e'.0.now) × (e.1.0.now ≡ e'.1.0.now)))
  lent-aead-decrypt-detached-decided κs a g x x' e e' = agree thrice

  pub lent-aead-decrypt-decided : DecidesLent lent-aead-decrypt.ended (lent-aead-decrypt.clauses 𝓛 mem run) (λ κs x x' e e'. (x ≡ x') × ((e.0.now ≡ e'.0.now) × (e.1.0.now ≡ e'.1.0.now)))
  lent-aead-decrypt-decided κs a g x x' e e' = agree thrice

  pub lent-aead-decrypt-in-place-detached-decided : DecidesLent lent-aead-decrypt-in-place-detached.ended (lent-aead-decrypt-in-place-detached.clauses 𝓛 mem run) (λ κs x x' e e'. (x ≡ x') × ((e.0.now ≡ e'.0.now) × (e.1.0.now ≡ e'.1.0.now)))
  lent-aead-decrypt-in-place-detached-decided κs a g x x' e e' = agree thrice

  pub lent-aead-decrypt-in-place-decided : DecidesLent lent-aead-decrypt-in-place.ended (lent-aead-decrypt-in-place.clauses 𝓛 mem run) (λ κs x x' e e'. (x ≡ x') × ((e.0.now ≡ e'.0.now) × (e.1.0.now ≡ e'.1.0.now)))
  lent-aead-decrypt-in-place-decided κs a g x x' e e' = agree thrice

  pub lent-begin-decided : DecidesLent lent-begin.ended (lent-begin.clauses 𝓛 mem run) (λ κs x x' e e'. (x ≡ x') × (e.0.now ≡ e'.0.now))
  lent-begin-decided κs a g x x' e e' = agree twice

  pub lent-feed-decided : DecidesLent lent-feed.ended (lent-feed.clauses 𝓛 mem run) (λ κs x x' e e'. (x ≡ x') × ((e.0.now ≡ e'.0.now) × (e.1.1.0.now ≡ e'.1.1.0.now)))
  lent-feed-decided κs a g x x' e e' = agree thrice

  pub lent-finish-seal-decided : DecidesLent lent-finish-seal.ended (lent-finish-seal.clauses 𝓛 mem run) (λ κs x x' e e'. (x ≡ x') × (e.0.now ≡ e'.0.now))
  lent-finish-seal-decided κs a g x x' e e' = agree twice

  pub lent-finish-open-decided : DecidesLent lent-finish-open.ended (lent-finish-open.clauses 𝓛 mem run) (λ κs x x' e e'. (x ≡ x') × (e.0.now ≡ e'.0.now))
  lent-finish-open-decided κs a g x x' e e' = agree twice

-- ---- the tag
pub tag-default-decided : Decides 0 tag-default-k.ps tag-default-k.r tag-default.Post (λ κs x x' e e'. x ≡ x')
tag-default-decided κs a x x' e e' = once

pub tag-from-bytes-decided : Decides 0 tag-from-bytes-k.ps tag-from-bytes-k.r tag-from-bytes.Post (λ κs x x' e e'. x ≡ x')
tag-from-bytes-decided κs a x x' e e' = once

pub tag-into-bytes-decided : Decides 0 tag-into-bytes-k.ps tag-into-bytes-k.r tag-into-bytes.Post (λ κs x x' e e'. x ≡ x')
tag-into-bytes-decided κs a x x' e e' = once

pub tag-verify-decided : Decides 0 tag-verify-k.ps tag-verify-k.r tag-verify.Post (λ κs x x' e e'. x ≡ x')
tag-verify-decided κs a x x' e e' = once

pub mode-absorb-rate-decided : Decides 0 mode-absorb-rate-k.ps mode-absorb-rate-k.r mode-absorb-rate.Post (λ κs x x' e e'. x ≡ x')
mode-absorb-rate-decided κs a x x' e e' = once

pub mode-squeeze-rate-decided : Decides 0 mode-squeeze-rate-k.ps mode-squeeze-rate-k.r mode-squeeze-rate.Post (λ κs x x' e e'. x ≡ x')
mode-squeeze-rate-decided κs a x x' e e' = once

pub mode-down-colour-decided : Decides 0 mode-down-colour-k.ps mode-down-colour-k.r mode-down-colour.Post (λ κs x x' e e'. x ≡ x')
mode-down-colour-decided κs a x x' e e' = once

pub mode-keyed-decided : Decides 0 mode-keyed-k.ps mode-keyed-k.r mode-keyed.Post (λ κs x x' e e'. x ≡ x')
mode-keyed-decided κs a x x' e e' = told-once x x'

pub mode-takes-decided : Decides 0 mode-takes-k.ps mode-takes-k.r mode-takes.Post (λ κs x x' e e'. x ≡ x')
mode-takes-decided κs a x x' e e' = told-once x x'

pub rule-is-empty-block-decided : Decides 0 rule-is-empty-block-k.ps rule-is-empty-block-k.r rule-is-empty-block.Post (λ κs x x' e e'. x ≡ x')
rule-is-empty-block-decided κs a x x' e e' = once

pub key-lengths-decided : Decides 0 key-lengths-k.ps key-lengths-k.r key-lengths.Post (λ κs x x' e e'. x ≡ x')
key-lengths-decided κs a x x' e e' = told-once x x'

pub or-empty-decided : Decides 1 or-empty-k.ps or-empty-k.r or-empty.Post (λ κs x x' e e'. x.now ≡ x'.now)
or-empty-decided κs a x x' e e' = once

pub choose-decided : Decides 1 choose-k.ps choose-k.r choose.Post (λ κs x x' e e'. x.now ≡ x'.now)
choose-decided κs a x x' e e' = once

pub refusal-number-decided : Decides 0 refusal-number-k.ps refusal-number-k.r refusal-number.Post (λ κs x x' e e'. x ≡ x')
refusal-number-decided κs a x x' e e' = once

pub refusal-missing-decided : Decides 0 refusal-missing-k.ps refusal-missing-k.r refusal-missing.Post (λ κs x x' e e'. x ≡ x')
refusal-missing-decided κs a x x' e e' = once

-- ---- walking back
pub back-absorb-decided : Decides 1 back-absorb-k.ps back-absorb-k.r back-absorb.Post (λ κs x x' e e'. x ≡ x')
back-absorb-decided κs a x x' e e' = once

pub back-absorb-more-decided : Decides 1 back-absorb-more-k.ps back-absorb-more-k.r back-absorb-more.Post (λ κs x x' e e'. x ≡ x')
back-absorb-more-decided κs a x x' e e' = once

pub back-squeeze-decided : Decides 0 back-squeeze-k.ps back-squeeze-k.r back-squeeze.Post (λ κs x x' e e'. x ≡ x')
back-squeeze-decided κs a x x' e e' = once

pub back-squeeze-key-decided : Decides 0 back-squeeze-key-k.ps back-squeeze-key-k.r back-squeeze-key.Post (λ κs x x' e e'. x ≡ x')
back-squeeze-key-decided κs a x x' e e' = once

pub back-squeeze-more-decided : Decides 0 back-squeeze-more-k.ps back-squeeze-more-k.r back-squeeze-more.Post (λ κs x x' e e'. x ≡ x')
back-squeeze-more-decided κs a x x' e e' = once

pub back-key-decided : Decides 3 back-key-k.ps back-key-k.r back-key.Post (λ κs x x' e e'. x ≡ x')
back-key-decided κs a x x' e e' = once

pub back-encrypt-decided : Decides 1 back-encrypt-k.ps back-encrypt-k.r back-encrypt.Post (λ κs x x' e e'. x ≡ x')
back-encrypt-decided κs a x x' e e' = once

pub back-seal-decided : Decides 1 back-seal-k.ps back-seal-k.r back-seal.Post (λ κs x x' e e'. x ≡ x')
back-seal-decided κs a x x' e e' = once

pub back-phase-after-decided : Decides 0 back-phase-after-k.ps back-phase-after-k.r back-phase-after.Post (λ κs x x' e e'. x ≡ x')
back-phase-after-decided κs a x x' e e' = once

-- ---- exported functions
pub c-xoodoo-permute-decided : Decides 1 c-xoodoo-permute-k.ps c-xoodoo-permute-k.r c-xoodoo-permute.Post (λ κs x x' e e'. e.0.now ≡ e'.0.now)
c-xoodoo-permute-decided κs a x x' e e' = once

pub c-xoodoo-inverse-decided : Decides 1 c-xoodoo-inverse-k.ps c-xoodoo-inverse-k.r c-xoodoo-inverse.Post (λ κs x x' e e'. e.0.now ≡ e'.0.now)
c-xoodoo-inverse-decided κs a x x' e e' = once

pub c-xoodoo-rounds-decided : Decides 1 c-xoodoo-rounds-k.ps c-xoodoo-rounds-k.r c-xoodoo-rounds.Post (λ κs x x' e e'. (x ≡ x') × (e.0.now ≡ e'.0.now))
c-xoodoo-rounds-decided κs a x x' e e' = twice

pub c-xoodoo-unrounds-decided : Decides 1 c-xoodoo-unrounds-k.ps c-xoodoo-unrounds-k.r c-xoodoo-unrounds.Post (λ κs x x' e e'. (x ≡ x') × (e.0.now ≡ e'.0.now))
c-xoodoo-unrounds-decided κs a x x' e e' = twice

pub c-xoodoo-add-byte-decided : Decides 1 c-xoodoo-add-byte-k.ps c-xoodoo-add-byte-k.r c-xoodoo-add-byte.Post (λ κs x x' e e'. (x ≡ x') × (e.0.now ≡ e'.0.now))
c-xoodoo-add-byte-decided κs a x x' e e' = twice

pub c-xoodoo-add-bytes-decided : Decides 2 c-xoodoo-add-bytes-k.ps c-xoodoo-add-bytes-k.r c-xoodoo-add-bytes.Post (λ κs x x' e e'. (x ≡ x') × (e.0.now ≡ e'.0.now))
c-xoodoo-add-bytes-decided κs a x x' e e' = twice

pub c-xoodoo-extract-bytes-decided : Decides 2 c-xoodoo-extract-bytes-k.ps c-xoodoo-extract-bytes-k.r c-xoodoo-extract-bytes.Post (λ κs x x' e e'. (x ≡ x') × (e.1.0.now ≡ e'.1.0.now))
c-xoodoo-extract-bytes-decided κs a x x' e e' = twice

pub c-hash-decided : Decides 2 c-hash-k.ps c-hash-k.r c-hash.Post (λ κs x x' e e'. (x ≡ x') × ((e.0.now ≡ e'.0.now) × (e.1.0.now ≡ e'.1.0.now)))
c-hash-decided κs a x x' e e' = thrice

pub c-absorb-decided : Decides 4 c-absorb-k.ps c-absorb-k.r c-absorb.Post (λ κs x x' e e'. (x ≡ x') × ((e.0.now ≡ e'.0.now) × ((e.1.0.now ≡ e'.1.0.now) × (e.1.1.1.0.now ≡ e'.1.1.1.0.now))))
c-absorb-decided κs a x x' e e' = fourfold

pub c-absorb-more-decided : Decides 4 c-absorb-more-k.ps c-absorb-more-k.r c-absorb-more.Post (λ κs x x' e e'. (x ≡ x') × ((e.0.now ≡ e'.0.now) × ((e.1.0.now ≡ e'.1.0.now) × (e.1.1.1.1.0.now ≡ e'.1.1.1.1.0.now))))
c-absorb-more-decided κs a x x' e e' = fourfold

pub c-squeeze-decided : Decides 4 c-squeeze-k.ps c-squeeze-k.r c-squeeze.Post (λ κs x x' e e'. (x ≡ x') × ((e.0.now ≡ e'.0.now) × ((e.1.0.now ≡ e'.1.0.now) × ((e.1.1.0.now ≡ e'.1.1.0.now) × (e.1.1.1.0.now ≡ e'.1.1.1.0.now)))))
c-squeeze-decided κs a x x' e e' = fivefold

pub c-squeeze-key-decided : Decides 4 c-squeeze-key-k.ps c-squeeze-key-k.r c-squeeze-key.Post (λ κs x x' e e'. (x ≡ x') × ((e.0.now ≡ e'.0.now) × ((e.1.0.now ≡ e'.1.0.now) × ((e.1.1.0.now ≡ e'.1.1.0.now) × (e.1.1.1.0.now ≡ e'.1.1.1.0.now)))))
c-squeeze-key-decided κs a x x' e e' = fivefold

pub c-squeeze-more-decided : Decides 4 c-squeeze-more-k.ps c-squeeze-more-k.r c-squeeze-more.Post (λ κs x x' e e'. (x ≡ x') × ((e.0.now ≡ e'.0.now) × ((e.1.0.now ≡ e'.1.0.now) × ((e.1.1.0.now ≡ e'.1.1.0.now) × (e.1.1.1.0.now ≡ e'.1.1.1.0.now)))))
c-squeeze-more-decided κs a x x' e e' = fivefold

pub c-new-decided : Decides 6 c-new-k.ps c-new-k.r c-new.Post (λ κs x x' e e'. (x ≡ x') × ((e.0.now ≡ e'.0.now) × ((e.1.0.now ≡ e'.1.0.now) × (e.1.1.1.1.1.1.1.1.1.1.0.now ≡ e'.1.1.1.1.1.1.1.1.1.1.0.now))))
c-new-decided κs a x x' e e' = fourfold

pub c-absorb-key-and-nonce-decided : Decides 6 c-absorb-key-and-nonce-k.ps c-absorb-key-and-nonce-k.r c-absorb-key-and-nonce.Post (λ κs x x' e e'. (x ≡ x') × ((e.0.now ≡ e'.0.now) × ((e.1.0.now ≡ e'.1.0.now) × (e.1.1.1.1.1.1.1.1.1.0.now ≡ e'.1.1.1.1.1.1.1.1.1.0.now))))
c-absorb-key-and-nonce-decided κs a x x' e e' = fourfold

pub c-ratchet-decided : Decides 3 c-ratchet-k.ps c-ratchet-k.r c-ratchet.Post (λ κs x x' e e'. (x ≡ x') × ((e.0.now ≡ e'.0.now) × ((e.1.0.now ≡ e'.1.0.now) × (e.1.1.0.now ≡ e'.1.1.0.now))))
c-ratchet-decided κs a x x' e e' = fourfold

pub c-encrypt-decided : Decides 5 c-encrypt-k.ps c-encrypt-k.r c-encrypt.Post (λ κs x x' e e'. (x ≡ x') × ((e.0.now ≡ e'.0.now) × ((e.1.0.now ≡ e'.1.0.now) × ((e.1.1.0.now ≡ e'.1.1.0.now) × (e.1.1.1.1.0.now ≡ e'.1.1.1.1.0.now)))))
c-encrypt-decided κs a x x' e e' = fivefold

pub c-decrypt-decided : Decides 5 c-decrypt-k.ps c-decrypt-k.r c-decrypt.Post (λ κs x x' e e'. (x ≡ x') × ((e.0.now ≡ e'.0.now) × ((e.1.0.now ≡ e'.1.0.now) × ((e.1.1.0.now ≡ e'.1.1.0.now) × (e.1.1.1.1.0.now ≡ e'.1.1.1.1.0.now)))))
c-decrypt-decided κs a x x' e e' = fivefold

pub c-encrypt-in-place-decided : Decides 4 c-encrypt-in-place-k.ps c-encrypt-in-place-k.r c-encrypt-in-place.Post (λ κs x x' e e'. (x ≡ x') × ((e.0.now ≡ e'.0.now) × ((e.1.0.now ≡ e'.1.0.now) × ((e.1.1.0.now ≡ e'.1.1.0.now) × (e.1.1.1.0.now ≡ e'.1.1.1.0.now)))))
c-encrypt-in-place-decided κs a x x' e e' = fivefold

pub c-decrypt-in-place-decided : Decides 4 c-decrypt-in-place-k.ps c-decrypt-in-place-k.r c-decrypt-in-place.Post (λ κs x x' e e'. (x ≡ x') × ((e.0.now ≡ e'.0.now) × ((e.1.0.now ≡ e'.1.0.now) × ((e.1.1.0.now ≡ e'.1.1.0.now) × (e.1.1.1.0.now ≡ e'.1.1.1.0.now)))))
c-decrypt-in-place-decided κs a x x' e e' = fivefold

pub c-aead-encrypt-detached-decided : Decides 6 c-aead-encrypt-detached-k.ps c-aead-encrypt-detached-k.r c-aead-encrypt-detached.Post (λ κs x x' e e'. (x ≡ x') × ((e.0.now ≡ e'.0.now) × ((e.1.0.now ≡ e'.1.0.now) × ((e.1.1.0.now ≡ e'.1.1.0.now) × ((e.1.1.1.1.1.0.now ≡ e'.1.1.1.1.1.0.now) × (e.1.1.1.1.1.1.0.now ≡ e'.1.1.1.1.1.1.0.now))))))
c-aead-encrypt-detached-decided κs a x x' e e' = sixfold

pub c-aead-encrypt-decided : Decides 5 c-aead-encrypt-k.ps c-aead-encrypt-k.r c-aead-encrypt.Post (λ κs x x' e e'. (x ≡ x') × ((e.0.now ≡ e'.0.now) × ((e.1.0.now ≡ e'.1.0.now) × ((e.1.1.0.now ≡ e'.1.1.0.now) × (e.1.1.1.1.1.0.now ≡ e'.1.1.1.1.1.0.now)))))
c-aead-encrypt-decided κs a x x' e e' = fivefold

pub c-aead-decrypt-detached-decided : Decides 6 c-aead-decrypt-detached-k.ps c-aead-decrypt-detached-k.r c-aead-decrypt-detached.Post (λ κs x x' e e'. (x ≡ x') × ((e.0.now ≡ e'.0.now) × ((e.1.0.now ≡ e'.1.0.now) × ((e.1.1.0.now ≡ e'.1.1.0.now) × (e.1.1.1.1.1.1.0.now ≡ e'.1.1.1.1.1.1.0.now)))))
c-aead-decrypt-detached-decided κs a x x' e e' = fivefold

pub c-aead-decrypt-decided : Decides 5 c-aead-decrypt-k.ps c-aead-decrypt-k.r c-aead-decrypt.Post (λ κs x x' e e'. (x ≡ x') × ((e.0.now ≡ e'.0.now) × ((e.1.0.now ≡ e'.1.0.now) × ((e.1.1.0.now ≡ e'.1.1.0.now) × (e.1.1.1.1.0.now ≡ e'.1.1.1.1.0.now)))))
c-aead-decrypt-decided κs a x x' e e' = fivefold

pub c-aead-encrypt-in-place-detached-decided : Decides 5 c-aead-encrypt-in-place-detached-k.ps c-aead-encrypt-in-place-detached-k.r c-aead-encrypt-in-place-detached.Post (λ κs x x' e e'. (x ≡ x') × ((e.0.now ≡ e'.0.now) × ((e.1.0.now ≡ e'.1.0.now) × ((e.1.1.0.now ≡ e'.1.1.0.now) × ((e.1.1.1.0.now ≡ e'.1.1.1.0.now) × (e.1.1.1.1.0.now ≡ e'.1.1.1.1.0.now))))))
c-aead-encrypt-in-place-detached-decided κs a x x' e e' = sixfold

pub c-aead-encrypt-in-place-decided : Decides 4 c-aead-encrypt-in-place-k.ps c-aead-encrypt-in-place-k.r c-aead-encrypt-in-place.Post (λ κs x x' e e'. (x ≡ x') × ((e.0.now ≡ e'.0.now) × ((e.1.0.now ≡ e'.1.0.now) × ((e.1.1.0.now ≡ e'.1.1.0.now) × (e.1.1.1.0.now ≡ e'.1.1.1.0.now)))))
c-aead-encrypt-in-place-decided κs a x x' e e' = fivefold

pub c-aead-decrypt-in-place-detached-decided : Decides 5 c-aead-decrypt-in-place-detached-k.ps c-aead-decrypt-in-place-detached-k.r c-aead-decrypt-in-place-detached.Post (λ κs x x' e e'. (x ≡ x') × ((e.0.now ≡ e'.0.now) × ((e.1.0.now ≡ e'.1.0.now) × ((e.1.1.0.now ≡ e'.1.1.0.now) × (e.1.1.1.1.0.now ≡ e'.1.1.1.1.0.now)))))
c-aead-decrypt-in-place-detached-decided κs a x x' e e' = fivefold

pub c-aead-decrypt-in-place-decided : Decides 4 c-aead-decrypt-in-place-k.ps c-aead-decrypt-in-place-k.r c-aead-decrypt-in-place.Post (λ κs x x' e e'. (x ≡ x') × ((e.0.now ≡ e'.0.now) × ((e.1.0.now ≡ e'.1.0.now) × ((e.1.1.0.now ≡ e'.1.1.0.now) × (e.1.1.1.0.now ≡ e'.1.1.1.0.now)))))
c-aead-decrypt-in-place-decided κs a x x' e e' = fivefold

pub c-verify-decided : Decides 2 c-verify-k.ps c-verify-k.r c-verify.Post (λ κs x x' e e'. x ≡ x')
c-verify-decided κs a x x' e e' = once

pub c-begin-decided : Decides 2 c-begin-k.ps c-begin-k.r c-begin.Post (λ κs x x' e e'. (x ≡ x') × ((e.0.now ≡ e'.0.now) × (e.1.0.now ≡ e'.1.0.now)))
c-begin-decided κs a x x' e e' = thrice

pub c-feed-decided : Decides 5 c-feed-k.ps c-feed-k.r c-feed.Post (λ κs x x' e e'. (x ≡ x') × ((e.0.now ≡ e'.0.now) × ((e.1.0.now ≡ e'.1.0.now) × ((e.1.1.1.0.now ≡ e'.1.1.1.0.now) × (e.1.1.1.1.1.1.0.now ≡ e'.1.1.1.1.1.1.0.now)))))
c-feed-decided κs a x x' e e' = fivefold

pub c-finish-seal-decided : Decides 4 c-finish-seal-k.ps c-finish-seal-k.r c-finish-seal.Post (λ κs x x' e e'. (x ≡ x') × ((e.0.now ≡ e'.0.now) × ((e.1.0.now ≡ e'.1.0.now) × ((e.1.1.0.now ≡ e'.1.1.0.now) × (e.1.1.1.0.now ≡ e'.1.1.1.0.now)))))
c-finish-seal-decided κs a x x' e e' = fivefold

pub c-finish-open-decided : Decides 4 c-finish-open-k.ps c-finish-open-k.r c-finish-open.Post (λ κs x x' e e'. (x ≡ x') × ((e.0.now ≡ e'.0.now) × ((e.1.0.now ≡ e'.1.0.now) × (e.1.1.1.0.now ≡ e'.1.1.1.0.now))))
c-finish-open-decided κs a x x' e e' = fourfold

pub c-back-absorb-decided : Decides 3 c-back-absorb-k.ps c-back-absorb-k.r c-back-absorb.Post (λ κs x x' e e'. (x ≡ x') × ((e.0.now ≡ e'.0.now) × (e.1.0.now ≡ e'.1.0.now)))
c-back-absorb-decided κs a x x' e e' = thrice

pub c-back-absorb-more-decided : Decides 3 c-back-absorb-more-k.ps c-back-absorb-more-k.r c-back-absorb-more.Post (λ κs x x' e e'. (x ≡ x') × ((e.0.now ≡ e'.0.now) × (e.1.0.now ≡ e'.1.0.now)))
c-back-absorb-more-decided κs a x x' e e' = thrice

pub c-back-squeeze-decided : Decides 2 c-back-squeeze-k.ps c-back-squeeze-k.r c-back-squeeze.Post (λ κs x x' e e'. (x ≡ x') × ((e.0.now ≡ e'.0.now) × (e.1.0.now ≡ e'.1.0.now)))
c-back-squeeze-decided κs a x x' e e' = thrice

pub c-back-squeeze-key-decided : Decides 2 c-back-squeeze-key-k.ps c-back-squeeze-key-k.r c-back-squeeze-key.Post (λ κs x x' e e'. (x ≡ x') × ((e.0.now ≡ e'.0.now) × (e.1.0.now ≡ e'.1.0.now)))
c-back-squeeze-key-decided κs a x x' e e' = thrice

pub c-back-squeeze-more-decided : Decides 2 c-back-squeeze-more-k.ps c-back-squeeze-more-k.r c-back-squeeze-more.Post (λ κs x x' e e'. (x ≡ x') × ((e.0.now ≡ e'.0.now) × (e.1.0.now ≡ e'.1.0.now)))
c-back-squeeze-more-decided κs a x x' e e' = thrice

pub c-back-key-decided : Decides 5 c-back-key-k.ps c-back-key-k.r c-back-key.Post (λ κs x x' e e'. (x ≡ x') × ((e.0.now ≡ e'.0.now) × (e.1.0.now ≡ e'.1.0.now)))
c-back-key-decided κs a x x' e e' = thrice

pub c-back-encrypt-decided : Decides 3 c-back-encrypt-k.ps c-back-encrypt-k.r c-back-encrypt.Post (λ κs x x' e e'. (x ≡ x') × ((e.0.now ≡ e'.0.now) × (e.1.0.now ≡ e'.1.0.now)))
c-back-encrypt-decided κs a x x' e e' = thrice

pub c-back-seal-decided : Decides 3 c-back-seal-k.ps c-back-seal-k.r c-back-seal.Post (λ κs x x' e e'. (x ≡ x') × ((e.0.now ≡ e'.0.now) × (e.1.0.now ≡ e'.1.0.now)))
c-back-seal-decided κs a x x' e e' = thrice
