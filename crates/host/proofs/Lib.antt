mod Placed
mod Fitting
