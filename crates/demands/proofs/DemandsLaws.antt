-- The three demands, all of them.
use Rattle.demands.specs.Demands.{Demands}
use Rattle.demands.proofs.TableLaws.{demand-1}
use Rattle.demands.proofs.Demand2Laws.{demand-2}
use Rattle.demands.proofs.Refinement.{demand-3}
use Rattle.demands.proofs.ReadKeeps.{read_keeps, count-keeps}
use Rattle.demands.proofs.NormalizeTwice.{normalize-twice}

pub demands : Demands
demands =
    record {
      demand-1 = demand-1;
      demand-2 = demand-2;
      demand-3 = demand-3;
      read_keeps = read_keeps;
      count-keeps = count-keeps;
      normalize-twice = normalize-twice;
    }
