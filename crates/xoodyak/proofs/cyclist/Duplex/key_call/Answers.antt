-- Key, t and its length fit the 44 bytes; then the nonce and the counter, where there are any.
use Rattle.xoodyak.proofs.cyclist.Duplex.key_call.Goals as goal

pub returns : goal.returns
returns c = rw (c.absorb_given-2.ensures, c.absorb_given.ensures, c.absorb_any.ensures, c.write_iv-n.ensures.1)
