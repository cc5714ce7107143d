-- `lookup::has_name` meets its contract: the name is compared where it stands in the image.
use Rattle.lookup.proofs.SeekLaws.{header-name}
use Rattle.lookup.proofs.has_name.Goals as goal

pub returns : goal.returns
returns c =
    header-name c.args.image.now c.args.at c.requires c.args.name.now c.matches_name.result c.matches_name.ensures
