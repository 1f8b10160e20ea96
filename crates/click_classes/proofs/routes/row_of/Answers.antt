use Rattle.std.proofs.Common.{◌-◌, refl, arith}
use Rattle.click_classes.proofs.OfNumbers.AddressWords.{masked_covers}
use Rattle.click_classes.proofs.routes.row_of.Goals as goal

pub returns-clause-ready : goal.returns-clause-ready
returns-clause-ready c = rw (c.mask_of.ensures, c.word_of.ensures.value) (record {
  fits_covers = λ a i. masked_covers c.args.entry.prefix.len a c.args.entry.prefix.network c.requires i c.word_of.ensures.address;
  rest = 32 - c.args.entry.prefix.len;
  rest_within = omega arith;
  mask_is = refl;
})
